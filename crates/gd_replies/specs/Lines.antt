-- How replies are printed: rows of FIELD_COUNT fields, each ended by a line feed.
use Rattle.std.specs.Prelude.{ℕ, ◌-◌, ◌==◌, ℤ, unsigned_abs, codes, if◌then◌else◌}
use Rattle.std.specs.Prelude.{List, [], ◌∷◌, ◌++◌, length, replicate}
use Rattle.std.specs.List.{flat_map, join_with_byte}
use Rattle.std.specs.Fmt.{decimal, signed_decimal}
use Rattle.hex.specs.Hex.{encode_lower}
use Rattle.gd_certificate.specs.Names.{cert_fault_name, cut_fault_name}
use Rattle.gd_certificate.specs.declared.CertFault.{CertFault}
use Rattle.gd_machine.specs.Names.{call_name, refusal_name, refusal_number}
use Rattle.gd_machine.specs.declared.refusal.Refusal.{Refusal}
use Rattle.gd_machine.specs.declared.refusal.Refusal.TheVariants as refusal
use Rattle.gd_text_part.specs.Causes.{fault_row, fault_name, fault_detail}
use Rattle.gd_text_part.specs.declared.row.TheConstants.{FIELD_COUNT}
use Rattle.gd_text_part.specs.declared.row.Member.{Member}
use Rattle.gd_text_part.specs.declared.row.Member.TheVariants as member
use Rattle.gd_replies.specs.declared.reply.CarriedLine.{CarriedLine}
use Rattle.gd_replies.specs.declared.reply.Reply.{Reply}
use Rattle.gd_replies.specs.declared.reply.Reply.TheVariants as reply
use Rattle.gd_replies.specs.declared.reply.SoundPosting.{SoundPosting}

-- the fields, and empty ones behind them up to a whole row
abbrev pub whole : List (List ℕ) → List (List ℕ)
whole fields = fields ++ replicate (FIELD_COUNT - length fields) []

-- the fields with commas between, and a line feed
abbrev pub line : List (List ℕ) → List ℕ
line fields = join_with_byte 44 (whole fields) ++ 10 ∷ []

-- what is told beside a refusal: the current round, or why a set is no cut
abbrev pub refusal_detail : Refusal → List ℕ
refusal_detail (refusal.StaleRound round) = decimal round
refusal_detail (refusal.NoCutProof fault) = cut_fault_name fault
refusal_detail r = []

abbrev pub member_name : Member → List ℕ
member_name member.Place = codes "place"
member_name member.Point = codes "point"
member_name member.Pool = codes "pool"

-- a word of the spread, empty where it is 0
abbrev pub spread_field : ℤ → List ℕ
spread_field spread = if unsigned_abs spread == 0 then [] else signed_decimal spread

-- what is to be published is no certificate, and where it is first wrong
abbrev pub uncertified_fields : CertFault → List ℕ → List (List ℕ)
uncertified_fields fault item =
    codes "refused" ∷ codes "publish" ∷ codes "3" ∷ codes "Certificate" ∷ cert_fault_name fault ∷ item ∷ []

abbrev pub sound_fields : SoundPosting → List (List ℕ)
sound_fields p =
    codes "sound" ∷ p.book ∷ decimal p.cycle ∷ decimal p.round ∷ decimal p.rule ∷ decimal p.lines ∷ decimal p.quantity ∷ encode_lower p.sum ∷ []

abbrev pub carry_fields : CarriedLine → List (List ℕ)
carry_fields l = codes "carry" ∷ l.contract ∷ l.«package» ∷ l.origin ∷ l.dest ∷ decimal l.quantity ∷ []

abbrev pub fields_of : Reply → List (List ℕ)
fields_of (reply.Fault f) = codes "fault" ∷ fault_row f ∷ fault_name f ∷ fault_detail f ∷ []
fields_of reply.Allowed = codes "allowed" ∷ []
fields_of reply.Shape = codes "broken" ∷ codes "Shape" ∷ []
fields_of (reply.BelowFloor i) = codes "broken" ∷ codes "BelowFloor" ∷ decimal i ∷ []
fields_of (reply.AboveCeiling i) = codes "broken" ∷ codes "AboveCeiling" ∷ decimal i ∷ []
fields_of (reply.OverCapacity name) = codes "broken" ∷ codes "OverCapacity" ∷ name ∷ []
fields_of (reply.Unbalanced name) = codes "broken" ∷ codes "Unbalanced" ∷ name ∷ []
fields_of reply.Best = codes "best" ∷ []
fields_of (reply.PriceTooLarge name) = codes "broken" ∷ codes "PriceTooLarge" ∷ name ∷ []
fields_of (reply.PriceOnSlack name) = codes "broken" ∷ codes "PriceOnSlack" ∷ name ∷ []
fields_of (reply.Underfilled i) = codes "broken" ∷ codes "Underfilled" ∷ decimal i ∷ []
fields_of (reply.Overfilled i) = codes "broken" ∷ codes "Overfilled" ∷ decimal i ∷ []
fields_of (reply.Cut excess) = codes "cut" ∷ decimal excess ∷ []
fields_of reply.NotCut = codes "broken" ∷ codes "NotCut" ∷ []
fields_of (reply.Total c q) = codes "total" ∷ decimal c ∷ decimal q ∷ []
fields_of (reply.Sched i q) = codes "sched" ∷ decimal i ∷ decimal q ∷ []
fields_of (reply.Price name level word spread) =
    codes "price" ∷ name ∷ decimal level ∷ signed_decimal word ∷ spread_field spread ∷ []
fields_of (reply.Inside kind name) = codes "inside" ∷ member_name kind ∷ name ∷ []
fields_of (reply.Accepted n cycle i) = codes "accepted" ∷ decimal n ∷ decimal cycle ∷ decimal i ∷ []
fields_of (reply.Done n) = codes "done" ∷ decimal n ∷ []
fields_of (reply.Frozen n cycle round lines) =
    codes "frozen" ∷ decimal n ∷ decimal cycle ∷ decimal round ∷ decimal lines ∷ []
fields_of (reply.Bound i class floor ceiling) =
    codes "bound" ∷ decimal i ∷ decimal class ∷ decimal floor ∷ decimal ceiling ∷ []
fields_of (reply.Published n cycle round) = codes "published" ∷ decimal n ∷ decimal cycle ∷ decimal round ∷ []
fields_of (reply.Bumped i q) = codes "bumped" ∷ decimal i ∷ decimal q ∷ []
fields_of (reply.Declared n cycle round) = codes "declared" ∷ decimal n ∷ decimal cycle ∷ decimal round ∷ []
fields_of (reply.Refused call refusal) =
    codes "refused" ∷ call_name call ∷ decimal (refusal_number call refusal) ∷ refusal_name refusal ∷ refusal_detail refusal ∷ []
fields_of (reply.UncertifiedShape fault) = uncertified_fields fault []
fields_of (reply.UncertifiedLine fault i) = uncertified_fields fault (decimal i)
fields_of (reply.UncertifiedElement fault name) = uncertified_fields fault name
fields_of reply.OutOfRange = codes "refused" ∷ codes "calendar" ∷ codes "1" ∷ codes "OutOfRange" ∷ []
fields_of reply.BadZone = codes "refused" ∷ codes "calendar" ∷ codes "2" ∷ codes "BadZone" ∷ []
fields_of (reply.Cycle c leaves received quick confirmed schedules effective) =
    codes "cycle" ∷ decimal c ∷ decimal leaves ∷ decimal received ∷ decimal quick
    ∷ decimal confirmed ∷ decimal schedules ∷ decimal effective ∷ []
fields_of (reply.Hours length timely evening intraday_1 intraday_2 intraday_3) =
    codes "hours" ∷ decimal length ∷ decimal timely ∷ decimal evening
    ∷ decimal intraday_1 ∷ decimal intraday_2 ∷ decimal intraday_3 ∷ []
fields_of (reply.ReceiptAccepted session n cycle i) =
    codes "receipt" ∷ decimal session ∷ codes "accepted" ∷ decimal n ∷ decimal cycle ∷ decimal i ∷ []
fields_of (reply.ReceiptDone session n) = codes "receipt" ∷ decimal session ∷ codes "done" ∷ decimal n ∷ []
fields_of (reply.ReceiptRefused session len call refusal) =
    codes "receipt" ∷ decimal session ∷ codes "refused" ∷ decimal len
    ∷ decimal (refusal_number call refusal) ∷ refusal_name refusal ∷ []
fields_of (reply.Slot k) = codes "slot" ∷ decimal k ∷ []
fields_of (reply.Reconciled k events nominations dekatherms) =
    codes "reconciled" ∷ decimal k ∷ decimal events ∷ decimal nominations ∷ decimal dekatherms ∷ []
fields_of (reply.Mismatch k list index) = codes "mismatch" ∷ decimal k ∷ decimal list ∷ decimal index ∷ []
fields_of (reply.Missing k count) =
    codes "refused" ∷ codes "close" ∷ codes "3" ∷ codes "Missing" ∷ decimal count ∷ decimal k ∷ []
fields_of reply.NoThread = codes "fault" ∷ codes "0" ∷ codes "NoThread" ∷ []
fields_of reply.TooMany = codes "fault" ∷ codes "0" ∷ codes "TooMany" ∷ []
fields_of reply.Kept = codes "refused" ∷ codes "keep" ∷ codes "1" ∷ codes "Kept" ∷ []
fields_of (reply.Audited n) = codes "audited" ∷ decimal n ∷ []
fields_of (reply.Damaged book cycle) = codes "unsound" ∷ book ∷ decimal cycle ∷ codes "Damaged" ∷ []
fields_of (reply.Unsound book cycle fault) = codes "unsound" ∷ book ∷ decimal cycle ∷ cert_fault_name fault ∷ []
fields_of (reply.Sound posting) = sound_fields posting
fields_of (reply.UnsoundBumps book cycle) = codes "unsound" ∷ book ∷ decimal cycle ∷ codes "Bumped" ∷ []
fields_of (reply.UncheckedBumps book cycle) = codes "unchecked" ∷ book ∷ decimal cycle ∷ codes "Bumped" ∷ []
fields_of (reply.Migrated n) = codes "migrated" ∷ decimal n ∷ []
fields_of reply.OtherVersion = codes "refused" ∷ codes "migrate" ∷ codes "1" ∷ codes "OtherVersion" ∷ []
fields_of reply.Store = codes "fault" ∷ codes "0" ∷ codes "Store" ∷ []
fields_of reply.OldVersion = codes "fault" ∷ codes "0" ∷ codes "OldVersion" ∷ []
fields_of (reply.Opened book calls events) = codes "opened" ∷ book ∷ decimal calls ∷ decimal events ∷ []
fields_of (reply.Replayed book calls events published) =
    codes "replayed" ∷ book ∷ decimal calls ∷ decimal events ∷ decimal published ∷ []
fields_of (reply.Differs piece call) = codes "differs" ∷ decimal piece ∷ decimal call ∷ []
fields_of reply.Busy = codes "fault" ∷ codes "0" ∷ codes "Busy" ∷ []
fields_of (reply.Full n) = codes "fault" ∷ decimal n ∷ codes "TooLong" ∷ []
fields_of reply.NeverFrozen = codes "refused" ∷ codes "question" ∷ codes "1" ∷ codes "NotFrozen" ∷ []
fields_of (reply.Carry line) = carry_fields line

-- the bytes of a reply
abbrev pub line_of : Reply → List ℕ
line_of r = line (fields_of r)

-- the bytes of replies, one after the other
abbrev pub lines_of : List Reply → List ℕ
lines_of replies = flat_map line_of replies
