-- The rows that tell what a check or the solver found.
use Rattle.std.specs.Prelude.{◌≡◌, ℕ, zero, suc, ◌+◌, ◌==◌, ◌&&◌, ℤ, unsigned_abs, max, if◌then◌else◌}
use Rattle.std.specs.Prelude.{Bool, List, [], ◌∷◌, ◌++◌, length, map, flat_map, zip, slice_get, unwrap_or}
use Rattle.std.specs.List.{enumerate_from, range_with_len, items_where_true}
use Rattle.gd_rules.specs.Limits.{classes}
use Rattle.gd_scale.specs.Sum.{sum_below}
use Rattle.gd_rules.specs.Question.{Question, line}
use Rattle.gd_rules.specs.Schedule.{class_total}
use Rattle.gd_system.specs.Pipeline.{Pipeline, names_of}
use Rattle.gd_question.specs.Posing.{Posed}
use Rattle.gd_schedule.specs.declared.Broken.{Broken}
use Rattle.gd_schedule.specs.declared.Broken.TheVariants as broken
use Rattle.gd_certificate.specs.Cutting.{Members}
use Rattle.gd_certificate.specs.declared.CertFault.{CertFault}
use Rattle.gd_certificate.specs.declared.CertFault.TheVariants as cert
use Rattle.gd_certificate.specs.declared.cut.CutFault.{CutFault}
use Rattle.gd_certificate.specs.declared.cut.CutFault.TheVariants as cut
use Rattle.gd_text_part.specs.declared.row.Member.{Member}
use Rattle.gd_text_part.specs.declared.row.Member.TheVariants as member
use Rattle.gd_replies.specs.declared.reply.Reply.{Reply}
use Rattle.gd_replies.specs.declared.reply.Reply.TheVariants as reply

-- the greater of 4 and the greatest class of the question's lines
abbrev pub last_class : Question → ℕ
last_class q = sum_below 4 max (length q.lines) (λ i. (line q i).class)

-- the totals of classes 1 to n
unfoldable pub totals_to : Question → List ℕ → ℕ → List Reply
totals_to q schedule zero = []
totals_to q schedule (suc n) = totals_to q schedule n ++ reply.Total (n + 1) (class_total q schedule (n + 1)) ∷ []

-- how good a schedule is, with its class totals
abbrev pub good_rows : Reply → Question → List ℕ → List Reply
good_rows good q schedule = good ∷ totals_to q schedule (last_class q)

-- an allowed schedule, with its class totals
abbrev pub allowed_rows : Question → List ℕ → List Reply
allowed_rows q schedule = good_rows reply.Allowed q schedule

-- a best schedule, with its class totals
abbrev pub best_rows : Question → List ℕ → List Reply
best_rows q schedule = good_rows reply.Best q schedule

abbrev pub name_at : Pipeline → ℕ → List ℕ
name_at p e = unwrap_or (slice_get (names_of p) e) []

-- what is broken, with lines counted from 1 and elements by name
abbrev pub Tells : Posed → Broken → Reply → Type 0
Tells q broken.Shape r = r ≡ reply.Shape
Tells q (broken.BelowFloor i) r = r ≡ reply.BelowFloor (i + 1)
Tells q (broken.AboveCeiling i) r = r ≡ reply.AboveCeiling (i + 1)
Tells q (broken.OverCapacity e) r = r ≡ reply.OverCapacity (name_at q.pipeline e.0)
Tells q (broken.Unbalanced e) r = r ≡ reply.Unbalanced (name_at q.pipeline e.0)
Tells q broken.OutOfMemory r = ⊥

-- what is wrong with a certificate, likewise
abbrev pub TellsFault : Posed → CertFault → Reply → Type 0
TellsFault q cert.Shape r = r ≡ reply.Shape
TellsFault q (cert.Broken b) r = Tells q b r
TellsFault q (cert.PriceTooLarge e) r = r ≡ reply.PriceTooLarge (name_at q.pipeline e.0)
TellsFault q (cert.PriceOnSlack e) r = r ≡ reply.PriceOnSlack (name_at q.pipeline e.0)
TellsFault q (cert.Underfilled i) r = r ≡ reply.Underfilled (i + 1)
TellsFault q (cert.Overfilled i) r = r ≡ reply.Overfilled (i + 1)
TellsFault q cert.OutOfMemory r = ⊥

-- why a set is no cut
abbrev pub cut_fault_reply : CutFault → Reply
cut_fault_reply cut.Shape = reply.Shape
cut_fault_reply cut.NotCut = reply.NotCut

-- the quantity of each line, lines counted from 1
abbrev pub sched_rows : List ℕ → List Reply
sched_rows schedule = map (λ line. reply.Sched line.0 line.1) (enumerate_from 1 schedule)

-- the two words of an element's price at a level; no row where both are 0
abbrev pub level_row : List ℕ → ℕ → ℤ → ℤ → List Reply
level_row name level word spread =
    if (unsigned_abs word == 0) && (unsigned_abs spread == 0) then [] else reply.Price name level word spread ∷ []

-- an element's price at levels 1 to 8, whose words stand at 0 to 7
abbrev pub element_rows : List ℕ → (ℕ → ℤ) × (ℕ → ℤ) → List Reply
element_rows name price = flat_map (λ k. level_row name (k + 1) (price.0 k) (price.1 k)) (range_with_len 0 classes)

-- the price of each element, by its name
abbrev pub price_rows : List (List ℕ) → List ((ℕ → ℤ) × (ℕ → ℤ)) → List Reply
price_rows names prices = flat_map (λ e. element_rows e.0 e.1) (zip names prices)

-- a best schedule with its class totals, its quantities, and the prices that show it best
abbrev pub solved_rows : Posed → List ℕ → List ((ℕ → ℤ) × (ℕ → ℤ)) → List Reply
solved_rows q schedule prices = best_rows q.asked schedule ++ sched_rows schedule ++ price_rows (names_of q.pipeline) prices

-- the members of a kind that are inside, by name, in order of entry
abbrev pub inside_rows : Member → List (List ℕ) → List Bool → List Reply
inside_rows kind names inside = map (λ name. reply.Inside kind name) (items_where_true inside names)

-- what is told of a set, and who is inside: places, then points, then pools
abbrev pub set_rows : Reply → Pipeline → Members → List Reply
set_rows told p set =
    told ∷ []
    ++ inside_rows member.Place p.places set.places
    ++ inside_rows member.Point (map (λ e. e.0) p.points) set.points
    ++ inside_rows member.Pool (map (λ e. e.0) p.pools) set.pools

-- a cut's excess, and who is inside
abbrev pub cut_rows : Pipeline → Members → ℕ → List Reply
cut_rows p cut excess = set_rows (reply.Cut excess) p cut
