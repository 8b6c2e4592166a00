use Rattle.std.specs.Prelude.{if◌then◌else◌}
use Rattle.std.specs.List.{list_any}
use Rattle.std.proofs.Common.{◌≡◌, ◌∙◌, Bool, true, false, List, ap, sym, refl, inr, Ok, Err}
use Rattle.std.proofs.lemmas.Map.Made.{is_some-lookup}
use Rattle.gd_rules.specs.Lines.{Key, same_key}
use Rattle.gd_text_part.specs.declared.fault.Cause.TheVariants as cause
use Rattle.gd_text_part.specs.declared.fault.TextFault.{TextFault}
use Rattle.gd_text_part.specs.declared.fault.TextFault.TheVariants as fault
use Rattle.gd_day.specs.Carrying.{carry_step, keys}
use Rattle.gd_day.proofs.carry.add_carry.Goals as goal

-- a key that is there is refused
repeated : {X : Type 0} (b : Bool) (x : X) (f : TextFault) → b ≡ true → (if b then Err f else Ok x) ≡ Err f
repeated true x f e = refl
repeated false x f e = cc

-- a new one is taken
taken : {X : Type 0} (b : Bool) (x : X) (f : TextFault) → b ≡ false → (if b then Err f else Ok x) ≡ Ok x
taken true x f e = cc
taken false x f e = refl

pub returns-then-contains_key-clause-added : goal.returns-then-contains_key-clause-added
returns-then-contains_key-clause-added c =
    let told = sym (ap (λ (l : List Key). list_any (same_key c.in-Carry.key) l) c.requires.kept) ∙ sym (is_some-lookup (same_key c.in-Carry.key) c.args.keys.now.entries) ∙ sym c.contains_key.ensures ∙ c.if-contains_key.true in
    inr (ap (carry_step c.args.number c.args.carry.now.items) c.in-Carry.is
    ∙ repeated (list_any (same_key c.in-Carry.key) (keys c.args.carry.now.items)) _ (fault.Row c.args.number cause.Duplicate) told
    ∙ ap (λ (f : TextFault). Err f) (sym c.at.ensures))

pub returns-clause-added : goal.returns-clause-added
returns-clause-added c =
    let told = sym (ap (λ (l : List Key). list_any (same_key c.in-Carry.key) l) c.requires.kept) ∙ sym (is_some-lookup (same_key c.in-Carry.key) c.args.keys.now.entries) ∙ sym c.contains_key.ensures ∙ c.if-contains_key.false in
    let pushed = rw c.in_ok-push.was at c.push.ensures.items in
    ap (carry_step c.args.number c.args.carry.now.items) c.in-Carry.is
    ∙ taken (list_any (same_key c.in-Carry.key) (keys c.args.carry.now.items)) _ (fault.Row c.args.number cause.Duplicate) told
    ∙ ap Ok (sym pushed)
