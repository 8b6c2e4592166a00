-- What the last event of a history tells of the book after it.
use Rattle.std.proofs.Common.{◌≡◌, ◌∙◌, ℕ, ◌+◌, ◌<◌, true, [], ◌∷◌, ◌++◌, length, take, get_or, Some, refl, sym, ap, ap₂, arith}
use Rattle.std.proofs.lemmas.List.{take_more, take_all}
use Rattle.std.proofs.lemmas.Option.{slice_get-get_or}
use Rattle.gd_certificate.specs.Cutting.{Members}
use Rattle.gd_certificate.specs.Explained.{IsShaped}
use Rattle.gd_machine.specs.declared.event.Event.{Event}
use Rattle.gd_machine.specs.declared.event.Event.TheVariants as event
use Rattle.gd_machine.specs.declared.reply.Reply.{Reply}
use Rattle.gd_machine.specs.declared.reply.Reply.TheVariants as reply
use Rattle.gd_machine.specs.Day.{Day}
use Rattle.gd_machine.specs.History.{History, is_frozen}
use Rattle.gd_machine.specs.Machine.{IsAccepted, IsLegal}
use Rattle.gd_machine.proofs.Shapes as shapes
use Rattle.gd_machine.proofs.Steps.{frozen_more}

-- a history ends in one way
pub one_end : (h g : History) (p q : Event × Reply) → h ++ p ∷ [] ≡ g ++ q ∷ [] → (h ≡ g) × (p ≡ q)
one_end [] [] p q e = (refl, cc)
one_end [] (y ∷ []) p q e = cc
one_end [] (y ∷ z ∷ g) p q e = cc
one_end (x ∷ []) [] p q e = cc
one_end (x ∷ z ∷ h) [] p q e = cc
one_end (x ∷ h) (y ∷ g) p q e =
    let first : x ≡ y = cc in
    let later : h ++ p ∷ [] ≡ g ++ q ∷ [] = cc in
    let same = one_end h g p q later in
    (ap₂ (λ (v : Event × Reply) (l : History). v ∷ l) first same.0, same.1)

-- the last pair of a legal history was accepted after those before it
pub last_accepted : (day : Day) (h : History) (at : ℕ) (p : Event × Reply) → IsLegal day h → at + 1 ≡ length h → p ≡ get_or h at p
    → (x : History) × (h ≡ x ++ p ∷ []) × IsAccepted day x p
last_accepted day h at p legal last is =
    let within : at < length h = omega (arith, last) in
    let whole : take (at + 1) h ≡ h = take_all (at + 1) h (omega (arith, last)) in (
      take at h,
      sym whole ∙ take_more h at p within ∙ ap (λ (q : Event × Reply). take at h ++ q ∷ []) (sym is),
      legal at p (slice_get-get_or h at p within ∙ ap (λ (q : Event × Reply). Some q) (sym is)),
    )

-- where a freeze is answered the book is frozen
pub froze : (day : Day) (h : History) (e : Event) (number cycle round lines : ℕ) → IsAccepted day h (e, reply.Frozen number cycle round lines)
    → is_frozen (h ++ (e, reply.Frozen number cycle round lines) ∷ []) ≡ true
froze day h (event.Freeze moment) number cycle round lines accepted = frozen_more h (event.Freeze moment, reply.Frozen number cycle round lines)
froze day h (event.Nominate moment party key quantity) number cycle round lines accepted = let bad = accepted.1 in cc
froze day h (event.Respond moment party line end quantity) number cycle round lines accepted = let bad = accepted.1 in cc
froze day h (event.PostCapacity moment element capacity) number cycle round lines accepted = let bad = accepted.1 in cc
froze day h (event.Publish moment certificate) number cycle round lines accepted = let bad = accepted.1 in cc
froze day h (event.Declare moment asked cut) number cycle round lines accepted = let bad = accepted.1 in cc
froze day h (event.Waive moment line) number cycle round lines accepted = let bad = accepted.1 in cc
froze day h (event.Skip moment) number cycle round lines accepted = let bad = accepted.1 in cc

-- the cut of an accepted declare is one of the pipeline
pub shaped : (day : Day) (h : History) (moment round : ℕ) (cut : Members) (r : Reply) → IsAccepted day h (event.Declare moment round cut, r) → IsShaped day.holdings.pipeline cut
shaped = shapes.shaped
