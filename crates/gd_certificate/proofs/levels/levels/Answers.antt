use Rattle.std.proofs.Common.{◌≡◌, ℕ, ◌+◌, ◌*◌, ◌^◌, ◌<◌, ◌++◌, ◌∷◌, [], List, length, map, get_or, IsTrue, true, arith, subst, sym, ap, ◌∙◌, below_more}
use Rattle.std.specs.Prelude.{pos}
use Rattle.std.proofs.lemmas.List.{length-map}
use Rattle.gd_scale.specs.Scale.{Scale}
use Rattle.gd_scale.specs.Laws.{IsLawful, IsBounded}
use Rattle.gd_rules.specs.Question.Element.{Pool, Segment}
use Rattle.gd_tree.specs.Grown.{Joins}
use Rattle.gd_system.specs.Pipeline.{Pipeline}
use Rattle.gd_tree.specs.Levels.{RisesBy}
use Rattle.gd_certificate.proofs.Rise.{fits_large, fits_weight, fits_more, fits_plus, fits_minus, read, from_earlier, to_earlier, up_step, down_step, rises_step, all_with, map_with, length_with}
use Rattle.gd_certificate.proofs.levels.levels.Goals as goal
use Rattle.gd_certificate.proofs.levels.levels.Goals.{then-segment-k, else-segment-k}

pub add-next-requires-clause-left : goal.add-next-requires-clause-left
add-next-requires-clause-left g c =
    let n : c.segment_count-count.result ≡ length c.args.question.now.pipeline.tree = c.segment_count-count.ensures ∙ ap (λ (p : Pipeline). length p.tree) c.system.ensures in
    let i = c.loop-k.invariant in
    let s = c.ends_of-segment.result in
    let below : s.from < length (map g.C.Cost.meaning c.loop-k.levels.items) = subst (λ n. s.from < n) (sym i.count) (from_earlier c.loop-k.k s.from s.to s.capacity c.ends_of-segment.ensures.joins c.if-segment-k.true) in
    let same = read g.C.Cost.meaning c.loop-k.levels.items s.from c.index.result.now g.C.Cost.scale.none below c.index.ensures in
    subst (λ z. IsTrue (g.C.Cost.within (pos (2 ^ 100)) z)) (sym same) (fits_large g.C.Cost.scale g.C.Cost.within g.met.C.Cost.bounded c.loop-k.k _ (omega (arith, n, c.loop-k-test.true, c.placed.ensures.few_segments)) (i.small s.from))

pub add-next-requires-clause-right : goal.add-next-requires-clause-right
add-next-requires-clause-right g c =
    let n : c.segment_count-count.result ≡ length c.args.question.now.pipeline.tree = c.segment_count-count.ensures ∙ ap (λ (p : Pipeline). length p.tree) c.system.ensures in
    let below : c.loop-k.k < length (map g.C.Cost.meaning c.args.prices.now) = subst (λ n. c.loop-k.k < n) (sym (length-map c.args.prices.now g.C.Cost.meaning)) (omega (arith, n, c.loop-k-test.true, c.requires.shape, c.placed.ensures.first)) in
    let same = read g.C.Cost.meaning c.args.prices.now c.loop-k.k c.index-prices-k.result g.C.Cost.scale.none below c.index-prices-k.is in
    subst (λ z. IsTrue (g.C.Cost.within (pos (2 ^ 100)) z)) (sym same) (fits_weight g.C.Cost.scale g.C.Cost.within g.met.C.Cost.bounded _ (c.requires.small c.loop-k.k (omega (arith, n, c.loop-k-test.true, c.placed.ensures.first))))

pub sub-next-requires-clause-left : goal.sub-next-requires-clause-left
sub-next-requires-clause-left g c =
    let n : c.segment_count-count.result ≡ length c.args.question.now.pipeline.tree = c.segment_count-count.ensures ∙ ap (λ (p : Pipeline). length p.tree) c.system.ensures in
    let i = c.loop-k.invariant in
    let s = c.ends_of-segment.result in
    let below : s.to < length (map g.C.Cost.meaning c.loop-k.levels.items) = subst (λ n. s.to < n) (sym i.count) (to_earlier c.loop-k.k s.from s.to s.capacity c.ends_of-segment.ensures.joins c.if-segment-k.false) in
    let same = read g.C.Cost.meaning c.loop-k.levels.items s.to c.index-else-segment-k.result.now g.C.Cost.scale.none below c.index-else-segment-k.ensures in
    subst (λ z. IsTrue (g.C.Cost.within (pos (2 ^ 100)) z)) (sym same) (fits_large g.C.Cost.scale g.C.Cost.within g.met.C.Cost.bounded c.loop-k.k _ (omega (arith, n, c.loop-k-test.true, c.placed.ensures.few_segments)) (i.small s.to))

pub sub-next-requires-clause-right : goal.sub-next-requires-clause-right
sub-next-requires-clause-right g c =
    let n : c.segment_count-count.result ≡ length c.args.question.now.pipeline.tree = c.segment_count-count.ensures ∙ ap (λ (p : Pipeline). length p.tree) c.system.ensures in
    let below : c.loop-k.k < length (map g.C.Cost.meaning c.args.prices.now) = subst (λ n. c.loop-k.k < n) (sym (length-map c.args.prices.now g.C.Cost.meaning)) (omega (arith, n, c.loop-k-test.true, c.requires.shape, c.placed.ensures.first)) in
    let same = read g.C.Cost.meaning c.args.prices.now c.loop-k.k c.index-prices-k.result g.C.Cost.scale.none below c.index-prices-k.is in
    subst (λ z. IsTrue (g.C.Cost.within (pos (2 ^ 100)) z)) (sym same) (fits_weight g.C.Cost.scale g.C.Cost.within g.met.C.Cost.bounded _ (c.requires.small c.loop-k.k (omega (arith, n, c.loop-k-test.true, c.placed.ensures.first))))

pub loop-k-preserved : goal.loop-k-preserved
loop-k-preserved g c =
    let n : c.segment_count-count.result ≡ length c.args.question.now.pipeline.tree = c.segment_count-count.ensures ∙ ap (λ (p : Pipeline). length p.tree) c.system.ensures in
    let i = c.loop-k.invariant in
    let s = c.ends_of-segment.result in
    let k : ℕ = c.loop-k.k in
    let sc : Scale g.C.Cost.Meaning = g.C.Cost.scale in
    let la : IsLawful sc = g.met.C.Cost.lawful in
    let bo : IsBounded sc g.C.Cost.within = g.met.C.Cost.bounded in
    let f = g.C.Cost.meaning in
    let ms : List g.C.Cost.Meaning = map f c.loop-k.levels.items in
    let x : g.C.Cost.Meaning = f c.if-segment-k.next in
    let w = λ (j : ℕ). get_or (map f c.args.prices.now) j sc.none in
    let known : k < length (map f c.args.prices.now) = subst (λ n. k < n) (sym (length-map c.args.prices.now f)) (omega (arith, n, c.loop-k-test.true, c.requires.shape, c.placed.ensures.first)) in
    let wm : f c.index-prices-k.result ≡ w k = read f c.args.prices.now k c.index-prices-k.result sc.none known c.index-prices-k.is in
    let e : map f c.push-in-loop-k.new.self.items ≡ ms ++ x ∷ [] = ap (map f) c.in_ok-push-2.ensures.items ∙ map_with f c.loop-k.levels.items c.if-segment-k.next in
    let fact : RisesBy sc (λ p. get_or (ms ++ x ∷ []) p sc.none) (w k) (Segment s.from s.to s.capacity) × (g.C.Cost.within (pos (2 ^ 40 * (k + 1))) x ≡ true) =
    elim c.if-segment-k.branch [
      | then-segment-k v ↦
          let below : s.from < length ms = subst (λ n. s.from < n) (sym i.count) (from_earlier k s.from s.to s.capacity c.ends_of-segment.ensures.joins v.if-segment-k.true) in
          let same : f v.index.result.now ≡ get_or ms s.from sc.none = read f c.loop-k.levels.items s.from v.index.result.now sc.none below v.index.ensures in
          let sum : x ≡ sc.plus (f v.index.result.now) (w k) = ap f v.next-is ∙ v.add-next.ensures ∙ ap (sc.plus (f v.index.result.now)) wm in (
            up_step sc la ms (w k) x (f v.index.result.now) k s.from s.to s.capacity i.count c.ends_of-segment.ensures.joins v.if-segment-k.true same sum,
            fits_plus sc g.C.Cost.within bo k x (f v.index.result.now) (w k) (subst (λ z. g.C.Cost.within (pos (2 ^ 40 * k)) z ≡ true) (sym same) (i.small s.from)) (c.requires.small k (omega (arith, n, c.loop-k-test.true, c.placed.ensures.first))) sum,
          )
      | else-segment-k v ↦
          let below : s.to < length ms = subst (λ n. s.to < n) (sym i.count) (to_earlier k s.from s.to s.capacity c.ends_of-segment.ensures.joins v.if-segment-k.false) in
          let same : f v.index-else-segment-k.result.now ≡ get_or ms s.to sc.none = read f c.loop-k.levels.items s.to v.index-else-segment-k.result.now sc.none below v.index-else-segment-k.ensures in
          let sum : x ≡ sc.plus (f v.index-else-segment-k.result.now) (sc.minus (w k)) = ap f v.next-is ∙ v.sub-next.ensures ∙ ap (λ z. sc.plus (f v.index-else-segment-k.result.now) (sc.minus z)) wm in (
            down_step sc la ms (w k) x (f v.index-else-segment-k.result.now) k s.from s.to s.capacity i.count c.ends_of-segment.ensures.joins v.if-segment-k.false same sum,
            fits_minus sc g.C.Cost.within bo k x (f v.index-else-segment-k.result.now) (w k) (subst (λ z. g.C.Cost.within (pos (2 ^ 40 * k)) z ≡ true) (sym same) (i.small s.to)) (c.requires.small k (omega (arith, n, c.loop-k-test.true, c.placed.ensures.first))) sum,
          )
    ] in
    record {
      count = ap length e ∙ length_with ms x ∙ ap (λ n. n + 1) i.count;
      joins = below_more (λ j. Joins j (get_or c.args.question.now.asked.elements j (Pool 0))) k i.joins (subst (Joins k) (sym c.ends_of-segment.ensures.is) c.ends_of-segment.ensures.joins);
      rises = subst (λ zs. (j : ℕ) → j < k + 1 → RisesBy sc (λ p. get_or zs p sc.none) (w j) (get_or c.args.question.now.asked.elements j (Pool 0))) (sym e)
          (rises_step sc la ms x w c.args.question.now.asked.elements k i.count i.joins i.rises (subst (RisesBy sc (λ p. get_or (ms ++ x ∷ []) p sc.none) (w k)) (sym c.ends_of-segment.ensures.is) fact.0));
      small = subst (λ zs. (p : ℕ) → g.C.Cost.within (pos (2 ^ 40 * (k + 1))) (get_or zs p sc.none) ≡ true) (sym e)
          (all_with (λ z. g.C.Cost.within (pos (2 ^ 40 * (k + 1))) z ≡ true) sc.none ms x (λ p. fits_more sc g.C.Cost.within bo k (get_or ms p sc.none) (i.small p)) fact.1);
    }
