use Rattle.std.proofs.Common.{◌≡◌, ◌≤◌, ◌∷◌, ◌++◌, [], ℕ, List, ◌∙◌, refl, sym, ap, subst, map, length, get_or, arith}
use Rattle.std.specs.Prelude.{◌+◌, ◌-◌, unwrap_or, All, nat_le, if◌then◌else◌}
use Rattle.std.specs.Map.{lookup}
use Rattle.std.specs.List.{position}
use Rattle.gd_rules.specs.Lines.{Nomination, same_name, same_key, lines_of, find}
use Rattle.gd_rules.specs.Lists.{nominated}
use Rattle.std.proofs.lemmas.List.{length-map}
use Rattle.gd_table.specs.Table.{keys as keys_in}
use Rattle.gd_lines.specs.Kept.{nomination_of, AreKept}
use Rattle.gd_lines.specs.LinesInside.{accepted_of, sum_in}
use Rattle.gd_lines.specs.Numbering.{numbered, nomination}
use Rattle.gd_lines.specs.declared.state.Accepted.{Accepted}
use Rattle.gd_lines.proofs.After.{last_within, sum_small, former_last, kept_then, keyed_then, listed}
use Rattle.gd_lines.proofs.Accept.{entered_by, found_at}
use Rattle.gd_lines.proofs.lines.Lines.accept.Goals as goal

pub change_sum-requires-clause-counted : goal.change_sum-requires-clause-counted
change_sum-requires-clause-counted c =
    let l = c.self.inside in
    let k = c.self.invariant in
    let n : Nomination = nomination c.args.key c.args.cycle c.args.class c.args.quantity in
    let line = c.in_ok-line.line in
    let keys = keys_in c.enter_key.new.keys in
    let states = c.enter_state.new.states.items in
    let e =
    entered_by (accepted_of l) (keys_in l.keys) l.states.items n line (keys_in c.make_room.new.keys) keys c.make_room.new.states.items states c.enter_key.result k.keyed k.few
    (ap (λ ns. numbered ns c.args.key) c.self.view_is ∙ sym c.check_key.ensures ∙ c.in_ok-line.was) c.make_room.ensures.same_keys c.make_room.ensures.same_states c.enter_key.ensures.keys c.enter_key.ensures.distinct c.enter_key.ensures.number
    c.enter_key.ensures.within c.enter_key.ensures.key c.enter_state.ensures in
    let former : c.renominate-former.result ≡ nominated (accepted_of l) c.args.key 5 =
    former_last (accepted_of l) (keys_in l.keys) l.states.items l.accepted.items (sum_in l) l.counts n line k keys e.entered_is e.distinct e.at e.within states e.states_are c.renominate-former.result c.renominate-former.ensures.former in
    let enough = last_within (accepted_of l) (keys_in l.keys) k.bounded k.keyed c.args.key k.distinct in
    let contract : c.key.inside.contract ≡ c.args.key.contract = ap (λ key. key.contract) c.key.view_is in
    let sums : unwrap_or (lookup (same_name c.key.inside.contract) c.make_room.new.sums.entries) 0 ≡ sum_in l c.args.key.contract =
    ap (λ e. unwrap_or (lookup (same_name c.key.inside.contract) e) 0) c.make_room.ensures.same_sums ∙ ap (sum_in l) contract in
    let sum = k.summed c.args.key.contract in
    let within : c.renominate-former.result ≤ unwrap_or (lookup (same_name c.key.inside.contract) c.make_room.new.sums.entries) 0 = omega (arith, former, enough, sums, sum) in
    within

pub change_sum-requires-clause-few : goal.change_sum-requires-clause-few
change_sum-requires-clause-few c =
    let l = c.self.inside in
    let k = c.self.invariant in
    let sums : unwrap_or (lookup (same_name c.key.inside.contract) c.make_room.new.sums.entries) 0 ≡ sum_in l c.key.inside.contract =
    ap (λ e. unwrap_or (lookup (same_name c.key.inside.contract) e) 0) c.make_room.ensures.same_sums in
    let sum = k.summed c.key.inside.contract in
    let small = sum_small (accepted_of l) (keys_in l.keys) k.bounded k.keyed c.key.inside.contract k.few in
    let within : unwrap_or (lookup (same_name c.key.inside.contract) c.make_room.new.sums.entries) 0 ≤ 20000000000000 = omega (arith, sums, sum, small) in
    within

pub count_until-requires : goal.count_until-requires
count_until-requires c =
    let l = c.self.inside in
    let k = c.self.invariant in
    let n : Nomination = nomination c.args.key c.args.cycle c.args.class c.args.quantity in
    let line = c.in_ok-line.line in
    let keys = keys_in c.enter_key.new.keys in
    let states = c.enter_state.new.states.items in
    let e =
    entered_by (accepted_of l) (keys_in l.keys) l.states.items n line (keys_in c.make_room.new.keys) keys c.make_room.new.states.items states c.enter_key.result k.keyed k.few
    (ap (λ ns. numbered ns c.args.key) c.self.view_is ∙ sym c.check_key.ensures ∙ c.in_ok-line.was) c.make_room.ensures.same_keys c.make_room.ensures.same_states c.enter_key.ensures.keys c.enter_key.ensures.distinct c.enter_key.ensures.number
    c.enter_key.ensures.within c.enter_key.ensures.key c.enter_state.ensures in
    let long : c.len.result ≡ length keys = c.len.ensures.is ∙ sym (length-map c.enter_key.new.keys.entries (λ e. e.0)) in
    let few = e.few in
    omega (arith, few, long)

pub invariant_of-self-2 : goal.invariant_of-self-2
invariant_of-self-2 c =
    let l = c.self.inside in
    let k = c.self.invariant in
    let n : Nomination = nomination c.args.key c.args.cycle c.args.class c.args.quantity in
    let line = c.in_ok-line.line in
    let keys = keys_in c.enter_key.new.keys in
    let states = c.enter_state.new.states.items in
    let e =
    entered_by (accepted_of l) (keys_in l.keys) l.states.items n line (keys_in c.make_room.new.keys) keys c.make_room.new.states.items states c.enter_key.result k.keyed k.few
    (ap (λ ns. numbered ns c.args.key) c.self.view_is ∙ sym c.check_key.ensures ∙ c.in_ok-line.was) c.make_room.ensures.same_keys c.make_room.ensures.same_states c.enter_key.ensures.keys c.enter_key.ensures.distinct c.enter_key.ensures.number
    c.enter_key.ensures.within c.enter_key.ensures.key c.enter_state.ensures in
    let a : Accepted = record { line = line; cycle = c.args.cycle; class = c.args.class; quantity = c.args.quantity } in
    let accepted : c.note.new.accepted.items ≡ l.accepted.items ++ a ∷ [] = c.note.ensures ∙ ap (λ items. items ++ a ∷ []) c.make_room.ensures.same_accepted in
    let contract : c.key.inside.contract ≡ c.args.key.contract = ap (λ key. key.contract) c.key.view_is in
    let sums : List ℕ → ℕ = λ other. unwrap_or (lookup (same_name other) c.change_sum.new.sums.entries) 0 in
    let changed : (other : List ℕ) → sums other ≡ (if same_name c.args.key.contract other then sum_in l c.args.key.contract - c.renominate-former.result + c.args.quantity else sum_in l other) =
    λ other.
    c.change_sum.ensures.changed other
    ∙ ap (λ entries. if same_name c.key.inside.contract other then unwrap_or (lookup (same_name c.key.inside.contract) entries) 0 - c.renominate-former.result + c.args.quantity else unwrap_or (lookup (same_name other) entries) 0) c.make_room.ensures.same_sums
    ∙ ap (λ name. if same_name name other then sum_in l name - c.renominate-former.result + c.args.quantity else sum_in l other) contract in
    let later : All (λ m. m.cycle ≤ c.args.cycle) (accepted_of l) = subst (All (λ m. m.cycle ≤ c.args.cycle)) (sym c.self.view_is) c.requires in
    let long : c.len.result ≡ length keys = c.len.ensures.is ∙ sym (length-map c.enter_key.new.keys.entries (λ e. e.0)) in
    let counts : (x : ℕ) → 1 ≤ x → x ≤ 5 → get_or c.count_until.new.counts (x - 1) 0 ≡ (if nat_le c.args.cycle x then length keys else get_or l.counts (x - 1) 0) =
    λ x low high. c.count_until.ensures.filled x low high ∙ ap (λ m. if nat_le c.args.cycle x then m else get_or l.counts (x - 1) 0) long in
    let kept =
    kept_then (accepted_of l) (keys_in l.keys) l.states.items l.accepted.items (sum_in l) l.counts n line k keys e.entered_is e.distinct e.at e.within states e.states_are c.renominate-former.result c.renominate-former.ensures.former sums changed later
    (c.count_until.ensures.in_day, c.change_sum.ensures.small) e.few a refl c.count_until.new.counts counts c.renominate-former.new.states.items c.renominate-former.ensures.sized c.renominate-former.ensures.others c.renominate-former.ensures.class
    c.renominate-former.ensures.quantities in
    let told : map (nomination_of keys) (l.accepted.items ++ a ∷ []) ≡ accepted_of l ++ n ∷ [] =
    listed (accepted_of l) (keys_in l.keys) l.states.items l.accepted.items (sum_in l) l.counts n line k keys e.entered_is e.distinct e.at e.within states e.states_are a
    (ap (λ key. let m : Nomination = record { key = key; cycle = c.args.cycle; class = c.args.class; quantity = c.args.quantity } in m) e.at) in
    subst (λ items. AreKept (map (nomination_of keys) items) keys c.renominate-former.new.states.items items sums c.count_until.new.counts) (sym accepted)
    (subst (λ ns. AreKept ns keys c.renominate-former.new.states.items (l.accepted.items ++ a ∷ []) sums c.count_until.new.counts) (sym told) kept)

pub returns-clause-done : goal.returns-clause-done
returns-clause-done c =
    let l = c.self.inside in
    let k = c.self.invariant in
    let n : Nomination = nomination c.args.key c.args.cycle c.args.class c.args.quantity in
    let line = c.in_ok-line.line in
    let keys = keys_in c.enter_key.new.keys in
    let states = c.enter_state.new.states.items in
    let e =
    entered_by (accepted_of l) (keys_in l.keys) l.states.items n line (keys_in c.make_room.new.keys) keys c.make_room.new.states.items states c.enter_key.result k.keyed k.few
    (ap (λ ns. numbered ns c.args.key) c.self.view_is ∙ sym c.check_key.ensures ∙ c.in_ok-line.was) c.make_room.ensures.same_keys c.make_room.ensures.same_states c.enter_key.ensures.keys c.enter_key.ensures.distinct c.enter_key.ensures.number
    c.enter_key.ensures.within c.enter_key.ensures.key c.enter_state.ensures in
    let a : Accepted = record { line = line; cycle = c.args.cycle; class = c.args.class; quantity = c.args.quantity } in
    let accepted : c.note.new.accepted.items ≡ l.accepted.items ++ a ∷ [] = c.note.ensures ∙ ap (λ items. items ++ a ∷ []) c.make_room.ensures.same_accepted in
    let told : map (nomination_of keys) (l.accepted.items ++ a ∷ []) ≡ accepted_of l ++ n ∷ [] =
    listed (accepted_of l) (keys_in l.keys) l.states.items l.accepted.items (sum_in l) l.counts n line k keys e.entered_is e.distinct e.at e.within states e.states_are a
    (ap (λ key. let m : Nomination = record { key = key; cycle = c.args.cycle; class = c.args.class; quantity = c.args.quantity } in m) e.at) in
    ap (map (nomination_of keys)) accepted ∙ told ∙ ap (λ ns. ns ++ n ∷ []) c.self.view_is

pub returns-clause-found : goal.returns-clause-found
returns-clause-found c =
    let l = c.self.inside in
    let k = c.self.invariant in
    let n : Nomination = nomination c.args.key c.args.cycle c.args.class c.args.quantity in
    let line = c.in_ok-line.line in
    let keys = keys_in c.enter_key.new.keys in
    let states = c.enter_state.new.states.items in
    let e =
    entered_by (accepted_of l) (keys_in l.keys) l.states.items n line (keys_in c.make_room.new.keys) keys c.make_room.new.states.items states c.enter_key.result k.keyed k.few
    (ap (λ ns. numbered ns c.args.key) c.self.view_is ∙ sym c.check_key.ensures ∙ c.in_ok-line.was) c.make_room.ensures.same_keys c.make_room.ensures.same_states c.enter_key.ensures.keys c.enter_key.ensures.distinct c.enter_key.ensures.number
    c.enter_key.ensures.within c.enter_key.ensures.key c.enter_state.ensures in
    let a : Accepted = record { line = line; cycle = c.args.cycle; class = c.args.class; quantity = c.args.quantity } in
    let accepted : c.note.new.accepted.items ≡ l.accepted.items ++ a ∷ [] = c.note.ensures ∙ ap (λ items. items ++ a ∷ []) c.make_room.ensures.same_accepted in
    let told : map (nomination_of keys) (l.accepted.items ++ a ∷ []) ≡ accepted_of l ++ n ∷ [] =
    listed (accepted_of l) (keys_in l.keys) l.states.items l.accepted.items (sum_in l) l.counts n line k keys e.entered_is e.distinct e.at e.within states e.states_are a
    (ap (λ key. let m : Nomination = record { key = key; cycle = c.args.cycle; class = c.args.class; quantity = c.args.quantity } in m) e.at) in
    let keyed : keys ≡ lines_of (accepted_of l ++ n ∷ []) =
    keyed_then (accepted_of l) (keys_in l.keys) l.states.items l.accepted.items (sum_in l) l.counts n line k keys e.entered_is e.distinct e.at e.within states e.states_are in
    ap (λ ns. find ns c.args.key) (ap (map (nomination_of keys)) accepted ∙ told) ∙ ap (position (same_key c.args.key)) (sym keyed) ∙ found_at keys line c.args.key e.distinct e.within e.at
