-- The row of a part, by what it is.
use Rattle.std.proofs.Common.{◌≡◌, ℕ, List, [], Option, Some, sym, ap, ◌∙◌}
use Rattle.std.specs.Prelude.{codes, unwrap_or}
use Rattle.std.specs.List.{slice_get}
use Rattle.gd_rules.specs.Question.Element.{Segment as segment, Receipt as receipt, Delivery as delivery, Pool as pool}
use Rattle.gd_system.specs.Pipeline.{Pipeline, names_of, operator_at}
use Rattle.gd_system.specs.Route.{element_at}
use Rattle.gd_body.specs.Rows.{segment_fields, point_fields, pool_fields, part_fields, part_row, element_name, operator_name, place_name}

module _ (p : Pipeline) (e : ℕ) (name : List ℕ) (named : slice_get (names_of p) e ≡ Some name) where
  pub segment_row : (from to capacity : ℕ) (first last : List ℕ) → segment from to capacity ≡ element_at p e
      → slice_get p.places from ≡ Some first → slice_get p.places to ≡ Some last → segment_fields name first last capacity ≡ part_row p e
  segment_row from to capacity first last is f t =
      sym (ap (part_fields p (element_name p e) (operator_name p e)) (sym is)
      ∙ ap (λ (o : Option (List ℕ)). segment_fields (unwrap_or o []) (place_name p from) (place_name p to) capacity) named
      ∙ ap (λ (o : Option (List ℕ)). segment_fields name (unwrap_or o []) (place_name p to) capacity) f
      ∙ ap (λ (o : Option (List ℕ)). segment_fields name first (unwrap_or o []) capacity) t)

  pub receipt_row : (place capacity : ℕ) (at : List ℕ) (operator : Option (List ℕ)) → receipt place capacity ≡ element_at p e
      → slice_get p.places place ≡ Some at → operator ≡ operator_at p e → point_fields name (codes "receipt") at (unwrap_or operator []) capacity ≡ part_row p e
  receipt_row place capacity at operator is f held =
      sym (ap (part_fields p (element_name p e) (operator_name p e)) (sym is)
      ∙ ap (λ (o : Option (List ℕ)). point_fields (unwrap_or o []) (codes "receipt") (place_name p place) (operator_name p e) capacity) named
      ∙ ap (λ (o : Option (List ℕ)). point_fields name (codes "receipt") (unwrap_or o []) (operator_name p e) capacity) f
      ∙ ap (λ (o : Option (List ℕ)). point_fields name (codes "receipt") at (unwrap_or o []) capacity) (sym held))

  pub delivery_row : (place capacity : ℕ) (at : List ℕ) (operator : Option (List ℕ)) → delivery place capacity ≡ element_at p e
      → slice_get p.places place ≡ Some at → operator ≡ operator_at p e → point_fields name (codes "delivery") at (unwrap_or operator []) capacity ≡ part_row p e
  delivery_row place capacity at operator is f held =
      sym (ap (part_fields p (element_name p e) (operator_name p e)) (sym is)
      ∙ ap (λ (o : Option (List ℕ)). point_fields (unwrap_or o []) (codes "delivery") (place_name p place) (operator_name p e) capacity) named
      ∙ ap (λ (o : Option (List ℕ)). point_fields name (codes "delivery") (unwrap_or o []) (operator_name p e) capacity) f
      ∙ ap (λ (o : Option (List ℕ)). point_fields name (codes "delivery") at (unwrap_or o []) capacity) (sym held))

  pub pool_row : (place : ℕ) (at : List ℕ) (operator : Option (List ℕ)) → pool place ≡ element_at p e
      → slice_get p.places place ≡ Some at → operator ≡ operator_at p e → pool_fields name at (unwrap_or operator []) ≡ part_row p e
  pool_row place at operator is f held =
      sym (ap (part_fields p (element_name p e) (operator_name p e)) (sym is)
      ∙ ap (λ (o : Option (List ℕ)). pool_fields (unwrap_or o []) (place_name p place) (operator_name p e)) named
      ∙ ap (λ (o : Option (List ℕ)). pool_fields name (unwrap_or o []) (operator_name p e)) f
      ∙ ap (λ (o : Option (List ℕ)). pool_fields name at (unwrap_or o [])) (sym held))
