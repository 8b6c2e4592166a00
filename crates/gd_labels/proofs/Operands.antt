-- What the code reads of labels and gains.
use Rattle.std.proofs.Common.{◌≡◌, ℕ, ◌*◌, ◌^◌, ◌<◌, List, length, map, get_or, Bool, IsTrue, sym, ◌∙◌, ap₂, arith}
use Rattle.std.specs.Prelude.{ℤ, pos}
use Rattle.std.proofs.lemmas.List.{get_or_default}
use Rattle.gd_scale.specs.Scale.{Scale}
use Rattle.gd_scale.specs.Laws.{IsBounded}
use Rattle.gd_labels.specs.Links.{node_at, AreLinks}
use Rattle.gd_labels.specs.Findings.{label_at}
use Rattle.gd_labels.specs.Events.{AreEvents, above, reached_at, improves_at}
use Rattle.gd_labels.proofs.Order.{fits_more, meaning_read}
use Rattle.gd_labels.proofs.Chains.{label_fits}

module _ {V : Type 0} {s : Scale V} {within : ℤ → V → Bool} {from to : List ℕ} {gain : List V} {node before link current : List ℕ} {label : List V}
    (search : AreEvents s within from to gain node before link current label) (links : AreLinks s within (length current) from to gain)
    (i : ℕ) (i_in : i < length from) where
  -- the label at the start of link i
  pub start_label : {C : Type 0} (meaning : C → V) (items : List C) → label ≡ map meaning items → (u : ℕ) (x : C) → u ≡ get_or from i u → x ≡ get_or items u x → meaning x ≡ label_at s label (node_at from i)
  start_label meaning items label_is u x u_is x_is =
      let same_u : node_at from i ≡ u = get_or_default from i 0 u i_in ∙ sym u_is in
      let u_in : u < length label = rw (same_u, ← search.labels) at (links.begins_in i i_in) in
      rw (same_u, label_is) (meaning_read meaning items u x s.none (rw label_is at u_in) x_is)

  -- the label at its end
  pub end_label : {C : Type 0} (meaning : C → V) (items : List C) → label ≡ map meaning items → (w : ℕ) (x : C) → w ≡ get_or to i w → x ≡ get_or items w x → meaning x ≡ label_at s label (node_at to i)
  end_label meaning items label_is w x w_is x_is =
      let same_w : node_at to i ≡ w = get_or_default to i 0 w (omega (arith, links.ends)) ∙ sym w_is in
      let w_in : w < length label = rw (same_w, ← search.labels) at (links.leads_in i i_in) in
      rw (same_w, label_is) (meaning_read meaning items w x s.none (rw label_is at w_in) x_is)

  -- two values compare as they do
  pub compared : (x y : V) → x ≡ reached_at s from gain label i → y ≡ label_at s label (node_at to i) → above s x y ≡ improves_at s from to gain label i
  compared x y x_is y_is = ap₂ (above s) x_is y_is

  pub link_gain : {C : Type 0} (meaning : C → V) (items : List C) → gain ≡ map meaning items → (x : C) → x ≡ get_or items i x → meaning x ≡ get_or gain i s.none
  link_gain meaning items gain_is x x_is =
      let low : i < length gain = omega (arith, links.gains) in
      rw gain_is (meaning_read meaning items i x s.none (rw gain_is at low) x_is)

  -- both fit a sum
  pub label_small : IsBounded s within → length current < 2 ^ 32 → (x : V) → x ≡ label_at s label (node_at from i) → IsTrue (within (pos (2 ^ 100)) x)
  label_small bounded few x x_is = rw x_is (fits_more bounded (16 * length current) (2 ^ 100) (label_at s label (node_at from i)) (omega (arith, few)) (label_fits bounded search (node_at from i) (links.begins_in i i_in)))

  pub gain_small : IsBounded s within → (x : V) → x ≡ get_or gain i s.none → IsTrue (within (pos (2 ^ 100)) x)
  gain_small bounded x x_is = rw x_is (fits_more bounded 16 (2 ^ 100) (get_or gain i s.none) (omega arith) (links.small i i_in))
