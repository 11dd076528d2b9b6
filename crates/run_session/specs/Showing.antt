-- How an invocation whose collector calls are looked at is shown, by its outcome and what the calls hand over.
use Rattle.std.specs.Prelude.{ℕ}
use Rattle.wasm_syntax.specs.Run.{Outcome, finished, trapped}
use Rattle.run_session.specs.Delivery.{HandedDump, Delivery, nothing, whole, torn}

-- as an invocation without a collector; by the dump that was handed over; as a trap of this kind without a dump; or not at all, because of the call at
-- this index
pub data Showing : Type 0 where
  as_run : Showing
  collected : HandedDump → Showing
  no_dump : (kind : ℕ) → Showing
  torn_at : ℕ → Showing

-- An invocation that finishes hands nothing over; one that traps hands its dump over, or nothing.
abbrev pub showing : Outcome → Delivery → Showing
showing (finished v) (whole d) = torn_at 0
showing (finished v) (torn at) = torn_at at
showing (trapped kind) nothing = no_dump kind
showing (trapped kind) (whole d) = collected d
showing (trapped kind) (torn at) = torn_at at
showing _ _ = as_run
