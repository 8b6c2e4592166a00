use Rattle.std.proofs.Common.{◌≡◌, ◌≤◌, ◌<◌, ℕ, List, Some, refl, subst, length, get_or}
use Rattle.std.specs.List.{position}
use Rattle.gd_rules.specs.Lines.{Key, Nomination, no_key, same_key, lines_of, find, line_key, committed}
use Rattle.gd_rules.specs.Lists.{nominated}
use Rattle.gd_table.specs.Table.{keys as keys_in}
use Rattle.gd_lines.specs.LinesInside.{accepted_of}
use Rattle.gd_lines.proofs.After.{last_within}
use Rattle.gd_lines.proofs.Accept.{found_at}
use Rattle.gd_lines.proofs.lines.Lines.known.Goals as goal

pub returns-clause-found : goal.returns-clause-found
returns-clause-found c =
    let l = c.self.inside in
    let k = c.self.invariant in
    let found : (line : ℕ) → line < length (lines_of (accepted_of l)) → position (same_key (get_or (lines_of (accepted_of l)) line no_key)) (lines_of (accepted_of l)) ≡ Some line =
    subst (λ keys. (line : ℕ) → line < length keys → position (same_key (get_or keys line no_key)) keys ≡ Some line) k.keyed (λ line lt. found_at (keys_in l.keys) line (get_or (keys_in l.keys) line no_key) k.distinct lt refl) in
    subst (λ (ns : List Nomination). (line : ℕ) → line < length (lines_of ns) → find ns (line_key ns line) ≡ Some line) c.self.view_is found

pub returns-clause-within : goal.returns-clause-within
returns-clause-within c =
    let l = c.self.inside in
    let k = c.self.invariant in
    subst (λ (ns : List Nomination). (key : Key) → nominated ns key 5 ≤ committed ns key.contract) c.self.view_is (λ key. last_within (accepted_of l) (keys_in l.keys) k.bounded k.keyed key k.distinct)
