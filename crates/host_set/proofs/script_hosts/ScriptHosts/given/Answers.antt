use Rattle.std.proofs.Common.{◌≡◌, ℕ, ◌-◌, ◌≤◌, length, take, drop, slice_get, sym, ap, subst, ◌∙◌, arith}
use Rattle.std.specs.Option.{is_none}
use Rattle.std.proofs.lemmas.List.{length-drop}
use Rattle.host_devices.specs.Given.{replies_of}
use Rattle.host_set.specs.calls.Scripting.{ScriptState, calls_of, is_used_up}
use Rattle.host_set.proofs.Served.{given_so_far, all_served, reply_behind}
use Rattle.host_set.proofs.script_hosts.ScriptHosts.given.Goals as goal

pub returns-clause-count : goal.returns-clause-count
returns-clause-count c =
    let i = c.self.inside in
    let most : length (drop i.first i.replies.now) ≡ length i.replies.now - i.first = length-drop i.first i.replies.now in
    let le : length i.calls ≤ length (drop i.first i.replies.now) = omega (arith, most, c.self.invariant.0, c.self.invariant.1) in
    let all : length (calls_of (record { imports = i.imports.now; replies = i.replies.now; first = i.first; calls = i.calls })).served ≡ length i.calls = all_served i.calls (drop i.first i.replies.now) le in
    let count : i.next - i.first ≡ length i.calls = omega (arith, c.self.invariant.0) in
    subst (λ (s : ScriptState). i.next - i.first ≡ length (calls_of s).served) c.self.view_is (count ∙ sym all)

pub returns-clause-given : goal.returns-clause-given
returns-clause-given c =
    let i = c.self.inside in
    let count : length i.calls ≡ i.next - i.first = omega (arith, c.self.invariant.0) in
    subst (λ (s : ScriptState). replies_of (calls_of s).served ≡ take (i.next - i.first) (drop s.first s.replies)) c.self.view_is
    (given_so_far i.calls (drop i.first i.replies.now) ∙ ap (λ (n : ℕ). take n (drop i.first i.replies.now)) count)

pub returns-clause-left : goal.returns-clause-left
returns-clause-left c =
    let i = c.self.inside in
    let count : length i.calls ≡ i.next - i.first = omega (arith, c.self.invariant.0) in
    subst (λ (s : ScriptState). is_used_up s ≡ is_none (slice_get (drop s.first s.replies) (i.next - i.first))) c.self.view_is
    (ap is_none (sym (reply_behind i.replies.now i.first (length i.calls)) ∙ ap (slice_get (drop i.first i.replies.now)) count))
