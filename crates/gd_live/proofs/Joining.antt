-- Calls that are kept one after the other.
use Rattle.std.proofs.Common.{◌≡◌, inl, inr, ℕ, ◌+◌, List, [], ◌∷◌, ◌++◌, length, map, Result, Ok, refl, sym, ap, subst, ◌∙◌, append-nil}
use Rattle.std.specs.List.{AllByRecursion}
use Rattle.std.proofs.lemmas.List.{append_assoc}
use Rattle.std.proofs.lemmas.Grind.{flat_map-append}
use Rattle.gd_system.specs.Pipeline.{Pipeline}
use Rattle.gd_text_part.specs.Lines.{behind_opening, cut_at_commas, IsPlain}
use Rattle.gd_text_part.specs.declared.fault.RowFault.{RowFault}
use Rattle.gd_text_part.specs.declared.kind.Form.TheVariants as form
use Rattle.gd_text_part.specs.declared.order.Place.{Place}
use Rattle.gd_text_part.specs.declared.row.EventRow.{EventRow}
use Rattle.gd_text_part.specs.declared.row.Row.{Row}
use Rattle.gd_text_part.specs.declared.row.Row.TheVariants as row
use Rattle.gd_serving.specs.Lines.{text_of_lines}
use Rattle.gd_live.specs.Fronts.{front_from, longer_front}
use Rattle.gd_live.proofs.Fronts.{fronts_join}
use Rattle.gd_live.proofs.Renumbered.{anywhere}
use Rattle.gd_day.specs.Calls.{Call, calls_after, calls_of}
use Rattle.gd_day.specs.Groups.{AllPass, Passes}
use Rattle.gd_machine.specs.Day.{Day}
use Rattle.gd_machine.specs.History.{History}
use Rattle.gd_replies.specs.Lines.{lines_of}
use Rattle.gd_replies.specs.declared.reply.Reply.{Reply}
use Rattle.gd_course.specs.Course.{Runs}
use Rattle.gd_live.specs.Kept.{EndsWithCall, AreCalls}

pub all_join : {A : Type 0} (P : A → Type 0) (xs ys : List A) → AllByRecursion P xs → AllByRecursion P ys → AllByRecursion P (xs ++ ys)
all_join P [] ys a b = b
all_join P (x ∷ xs) ys a b = (a.0, all_join P xs ys a.1 b)

pub map_join : {A B : Type 0} (f : A → B) (xs ys : List A) → map f (xs ++ ys) ≡ map f xs ++ map f ys
map_join f [] ys = refl
map_join f (x ∷ xs) ys = ap (λ l. f x ∷ l) (map_join f xs ys)

-- behind a call the next one has a group of its own
split_calls : (n : ℕ) (g front : List Row) (e : EventRow) (more : List Row)
    → (m : ℕ) × (calls_after n g (front ++ row.Event e ∷ more) ≡ calls_after n g (front ++ row.Event e ∷ []) ++ calls_after m [] more)
split_calls n g [] e more = (n + length g + 1, refl)
split_calls n g (row.Event f ∷ front) e more =
    let later = split_calls (n + length g + 1) [] front e more in
    (later.0, ap (λ (l : List Call). record { group = g; first = n; event = f } ∷ l) later.1)
split_calls n g (r ∷ front) e more = split_calls n (g ++ r ∷ []) front e more

pub calls_join : (rows more : List Row) → EndsWithCall rows → (m : ℕ) × (calls_of (rows ++ more) ≡ calls_of rows ++ calls_after m [] more)
calls_join rows more (inl none) = (1, rw none refl)
calls_join rows more (inr (front, e, are)) =
    let it = split_calls 1 [] front e more in
    (it.0, ap (λ (l : List Row). calls_of (l ++ more)) are ∙ ap calls_of (append_assoc front (row.Event e ∷ []) more) ∙ it.1 ∙ ap (λ (l : List Row). calls_of l ++ calls_after it.0 [] more) (sym are))

pub ends_join : (rows more : List Row) → EndsWithCall rows → EndsWithCall more → EndsWithCall (rows ++ more)
ends_join rows more whole (inl none) = subst EndsWithCall (sym (ap (λ (l : List Row). rows ++ l) none ∙ append-nil rows)) whole
ends_join rows more whole (inr (front, e, are)) =
    inr (rows ++ front, e, ap (λ (l : List Row). rows ++ l) are ∙ sym (append_assoc rows front (row.Event e ∷ [])))

-- which numbers the rows have makes no difference to a run
pub runs_whatever : (day : Day) (h : History) (a b : ℕ) (g rows : List Row) (told : List Reply) (after : History) → Runs day h (calls_after a g rows) told after → Runs day h (calls_after b g rows) told after
runs_whatever day h a b g [] told after runs = runs
runs_whatever day h a b g (row.Event e ∷ rows) told after (between, front, rest, gives, runs, are) = (
  between,
  front,
  rest,
  gives,
  runs_whatever day between (a + length g + 1) (b + length g + 1) [] rows rest after runs,
  are,
)
runs_whatever day h a b g (r ∷ rows) told after runs = runs_whatever day h a b (g ++ r ∷ []) rows told after runs

passes_whatever : (p : Pipeline) (a b : ℕ) (g rows : List Row) → AllPass p (calls_after a g rows) → AllPass p (calls_after b g rows)
passes_whatever p a b g [] all = all
passes_whatever p a b g (row.Event e ∷ rows) all = (all.0, passes_whatever p (a + length g + 1) (b + length g + 1) [] rows all.1)
passes_whatever p a b g (r ∷ rows) all = passes_whatever p a b (g ++ r ∷ []) rows all

pub runs_join : (day : Day) (h : History) (xs ys : List Call) (told more : List Reply) (between after : History) → Runs day h xs told between → Runs day between ys more after → Runs day h (xs ++ ys) (told ++ more) after
runs_join day h [] ys told more between after (none, same) runs =
    subst (λ (l : List Reply). Runs day h ys (l ++ more) after) (sym none) (subst (λ (b : History). Runs day b ys more after) same runs)
runs_join day h (c ∷ xs) ys told more between after (next, front, rest, gave, runs, are) later = (
  next,
  front,
  rest ++ more,
  gave,
  runs_join day next xs ys rest more between after runs later,
  ap (λ (l : List Reply). l ++ more) are ∙ append_assoc front rest more,
)

-- nothing is kept
pub none_kept : (day : Day) (h : History) → AreCalls day h [] [] h
none_kept day h = record {
  lines = [];
  plain = tt;
  bytes = refl;
  read = [];
  reads = refl;
  whole = inl refl;
  passes = tt;
  told = [];
  runs = (refl, refl);
  replies_are = refl;
}

module _ (day : Day) (h between after : History) (rows replies more told : List ℕ) (a : AreCalls day h rows replies between) (b : AreCalls day between more told after)
    (numbers : front_from form.Day behind_opening (0 + length (map (cut_at_commas []) a.lines)) (map (cut_at_commas []) b.lines) ≡ Ok (b.read, behind_opening)) where
  next : (m : ℕ) × (calls_of (a.read ++ b.read) ≡ calls_of a.read ++ calls_after m [] b.read)
  next = calls_join a.read b.read a.whole

  front_is : (x y : Result (List Row × Place) RowFault) → x ≡ Ok (a.read, behind_opening) → y ≡ Ok (b.read, behind_opening)
      → front_from form.Day behind_opening (0 + length (map (cut_at_commas []) a.lines)) (map (cut_at_commas []) b.lines) ≡ y
      → longer_front form.Day x (0 + length (map (cut_at_commas []) a.lines)) (map (cut_at_commas []) b.lines) ≡ Ok (a.read ++ b.read, behind_opening)
  front_is x y is are so = rw is (rw so (rw are refl))

  reads_on : front_from form.Day behind_opening 0 (map (cut_at_commas []) (a.lines ++ b.lines)) ≡ Ok (a.read ++ b.read, behind_opening)
  reads_on =
      ap (front_from form.Day behind_opening 0) (map_join (cut_at_commas []) a.lines b.lines)
      ∙ fronts_join form.Day behind_opening 0 (map (cut_at_commas []) a.lines) (map (cut_at_commas []) b.lines)
      ∙ front_is _ _ a.reads numbers refl

  pub kept_join : AreCalls day h (rows ++ more) (replies ++ told) after
  kept_join = record {
    lines = a.lines ++ b.lines;
    plain = all_join IsPlain a.lines b.lines a.plain b.plain;
    bytes = ap (λ (l : List ℕ). l ++ more) a.bytes ∙ ap (λ (l : List ℕ). text_of_lines a.lines ++ l) b.bytes ∙ sym (flat_map-append (λ line. line ++ 10 ∷ []) a.lines b.lines);
    read = a.read ++ b.read;
    reads = reads_on;
    whole = ends_join a.read b.read a.whole b.whole;
    passes = subst (λ (l : List Call). AllPass day.holdings.pipeline l) (sym next.1)
        (all_join (λ (c : Call). Passes day.holdings.pipeline c.group) (calls_of a.read) (calls_after next.0 [] b.read) a.passes (passes_whatever day.holdings.pipeline 1 next.0 [] b.read b.passes));
    told = a.told ++ b.told;
    runs = subst (λ (l : List Call). Runs day h l (a.told ++ b.told) after) (sym next.1)
        (runs_join day h (calls_of a.read) (calls_after next.0 [] b.read) a.told b.told between after a.runs (runs_whatever day between 1 next.0 [] b.read b.told after b.runs));
    replies_are = ap (λ (l : List ℕ). l ++ told) a.replies_are ∙ ap (λ (l : List ℕ). lines_of a.told ++ l) b.replies_are ∙ sym (flat_map-append _ a.told b.told);
  }

pub calls_join_on : (day : Day) (h between after : History) (rows replies more told : List ℕ) → AreCalls day h rows replies between → AreCalls day between more told after → AreCalls day h (rows ++ more) (replies ++ told) after
calls_join_on day h between after rows replies more told a b =
    kept_join day h between after rows replies more told a b (anywhere 0 (0 + length (map (cut_at_commas []) a.lines)) (map (cut_at_commas []) b.lines) b.read b.reads)
