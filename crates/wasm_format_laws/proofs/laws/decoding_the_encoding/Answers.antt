use Rattle.wasm_format_laws.proofs.Decoding.{encoding_decodes, spelled_decodes}
use Rattle.wasm_format_laws.proofs.laws.decoding_the_encoding.Goals as goal

pub returns : goal.returns
returns c = record {
  encoded = encoding_decodes;
  spelled = spelled_decodes;
}
