-- What a clause sees of a request.
use Rattle.std.specs.Prelude.{ℕ, Bool, List, [], Option, map}
use Rattle.gasday_words.specs.declared.order.Command.{Command}
use Rattle.gasday_words.specs.declared.order.Order.{Order}
use Rattle.gasday_words.specs.declared.order.Order.TheVariants as order
use Rattle.gasday_words.specs.declared.order.Request.{Request}

-- an order, with its FILE as bytes
pub data Ordered : Type 0 where
  Text : Command → Ordered
  -- of a question's text with an answer behind it
  CheckAnswer : Ordered
  -- a strict one, or any
  Office : Bool → Ordered
  ArchivedDay : List ℕ → Bool → Ordered
  LiveDay : List ℕ → Ordered
  BookText : List ℕ → Ordered
  Audit : List ℕ → Ordered
  AuditEach : List ℕ → Ordered
  -- with its cycle, and its round where one is named
  Question : List ℕ → ℕ → Option ℕ → Ordered
  Carry : List ℕ → Ordered
  Migrate : List ℕ → Ordered

-- an order as a clause sees it
abbrev pub seen : Order → Ordered
seen (order.Text command) = Text command
seen order.CheckAnswer = CheckAnswer
seen (order.Office strict) = Office strict
seen (order.ArchivedDay file strict) = ArchivedDay file.now strict
seen (order.LiveDay file) = LiveDay file.now
seen (order.BookText file) = BookText file.now
seen (order.Audit file) = Audit file.now
seen (order.AuditEach file) = AuditEach file.now
seen (order.Question file cycle round) = Question file.now cycle round
seen (order.Carry file) = Carry file.now
seen (order.Migrate file) = Migrate file.now

-- an order, with the files that make up its text, and for how many seconds it waits for its file
pub record Requested : Type 0 where
  pub order : Ordered
  pub texts : List (List ℕ)
  pub wait : ℕ

-- an order over these texts, which doesn't wait
abbrev pub over_texts : Ordered → List (List ℕ) → Requested
over_texts o texts = record { order = o; texts = texts; wait = 0 }

-- an order that names no texts, and doesn't wait
abbrev pub without_texts : Ordered → Requested
without_texts o = over_texts o []

-- an order that names no texts, and waits so long
abbrev pub waiting : Ordered → ℕ → Requested
waiting o wait = record { order = o; texts = []; wait = wait }

-- a request as a clause sees it
abbrev pub requested : Request → Requested
requested r = record { order = seen r.order; texts = map (λ t. t.now) r.texts.items; wait = r.wait }
