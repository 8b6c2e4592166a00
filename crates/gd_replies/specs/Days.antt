-- The rows that tell what a book answers to a call of its day.
use Rattle.std.specs.Prelude.{◌≡◌, ℕ, ◌+◌, List, ◌∷◌, ◌++◌, length, map}
use Rattle.std.specs.List.{range_with_len}
use Rattle.gd_rules.specs.Question.{Question, line}
use Rattle.gd_system.specs.Pipeline.{Pipeline}
use Rattle.gd_question.specs.Posing.{Posed}
use Rattle.gd_schedule.specs.declared.Broken.{Broken}
use Rattle.gd_schedule.specs.declared.Broken.TheVariants as broken
use Rattle.gd_certificate.specs.Checked.{Certificate}
use Rattle.gd_certificate.specs.Cutting.{Members}
use Rattle.gd_certificate.specs.declared.CertFault.{CertFault}
use Rattle.gd_certificate.specs.declared.CertFault.TheVariants as cert
use Rattle.gd_replies.specs.Replies.{good_rows, sched_rows, set_rows, name_at}
use Rattle.gd_replies.specs.declared.reply.Reply.{Reply}
use Rattle.gd_replies.specs.declared.reply.Reply.TheVariants as reply

-- a line of a frozen question, counted from 1, with its bounds
abbrev pub bound_row : Question → ℕ → Reply
bound_row q i = reply.Bound (i + 1) (line q i).class (line q i).floor (line q i).ceiling

-- a frozen question: its cycle, round and number of lines, and each line with its bounds
abbrev pub frozen_rows : ℕ → Posed → List Reply
frozen_rows number q =
    reply.Frozen number q.cycle q.round (length q.asked.lines)
    ∷ map (bound_row q.asked) (range_with_len 0 (length q.asked.lines))

-- the lines that a schedule bumps, counted from 1, each with what it takes from them
abbrev pub bumped_rows : List (ℕ × ℕ) → List Reply
bumped_rows bumped = map (λ line. reply.Bumped (line.0 + 1) line.1) bumped

-- a published schedule: its class totals, its quantities, and the lines that it bumps
abbrev pub published_rows : ℕ → ℕ → ℕ → Certificate → List (ℕ × ℕ) → List Reply
published_rows number cycle round c bumped =
    good_rows (reply.Published number cycle round) c.question.asked c.schedule
    ++ sched_rows c.schedule ++ bumped_rows bumped

-- a cycle that was shown to have no allowed schedule, and the members of the cut's set
abbrev pub declared_rows : ℕ → ℕ → ℕ → Pipeline → Members → List Reply
declared_rows number cycle round p cut = set_rows (reply.Declared number cycle round) p cut

-- What is wrong with a schedule that was to be published, with lines counted from 1 and elements by name.
abbrev pub TellsBroken : Posed → Broken → Reply → Type 0
TellsBroken q broken.Shape r = r ≡ reply.UncertifiedShape (cert.Broken broken.Shape)
TellsBroken q (broken.BelowFloor i) r = r ≡ reply.UncertifiedLine (cert.Broken (broken.BelowFloor i)) (i + 1)
TellsBroken q (broken.AboveCeiling i) r = r ≡ reply.UncertifiedLine (cert.Broken (broken.AboveCeiling i)) (i + 1)
TellsBroken q (broken.OverCapacity e) r =
    r ≡ reply.UncertifiedElement (cert.Broken (broken.OverCapacity e)) (name_at q.pipeline e.0)
TellsBroken q (broken.Unbalanced e) r =
    r ≡ reply.UncertifiedElement (cert.Broken (broken.Unbalanced e)) (name_at q.pipeline e.0)
TellsBroken q broken.OutOfMemory r = ⊥

-- What is wrong with a certificate that was to be published, likewise.
abbrev pub TellsUncertified : Posed → CertFault → Reply → Type 0
TellsUncertified q cert.Shape r = r ≡ reply.UncertifiedShape cert.Shape
TellsUncertified q (cert.Broken b) r = TellsBroken q b r
TellsUncertified q (cert.PriceTooLarge e) r = r ≡ reply.UncertifiedElement (cert.PriceTooLarge e) (name_at q.pipeline e.0)
TellsUncertified q (cert.PriceOnSlack e) r = r ≡ reply.UncertifiedElement (cert.PriceOnSlack e) (name_at q.pipeline e.0)
TellsUncertified q (cert.Underfilled i) r = r ≡ reply.UncertifiedLine (cert.Underfilled i) (i + 1)
TellsUncertified q (cert.Overfilled i) r = r ≡ reply.UncertifiedLine (cert.Overfilled i) (i + 1)
TellsUncertified q cert.OutOfMemory r = ⊥
