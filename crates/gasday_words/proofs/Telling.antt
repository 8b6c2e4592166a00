-- What is told of words that clap refuses.
use Rattle.std.proofs.Common.{is_some, true, false, ◌≡◌, ◌≢◌, ◌∙◌, inl, inr, [], ◌∷◌, List, Option, None, refl, sym, ap, subst}
use Rattle.clap.specs.Kinds.{HasKind, IsAmong, Kinds}
use Rattle.clap.specs.Words.{Text, fault_of, kind_of}
use Rattle.clap.specs.declared.error.Error.{Error}
use Rattle.clap.specs.declared.error.kind.ErrorKind.{ErrorKind}
use Rattle.clap.specs.declared.error.kind.ErrorKind.TheVariants as kind
use Rattle.gasday_words.specs.declared.fault.UsageFault.{UsageFault}
use Rattle.gasday_words.specs.declared.fault.UsageFault.TheVariants.{Help, Version, Usage, OutOfMemory}
use Rattle.gasday_words.specs.Ordered.{Requested}
use Rattle.gasday_words.specs.Meaning.{gasday, meaning_of}
use Rattle.gasday_words.specs.Outcomes.{IsNoRequest, IsTelling, IsTold, IsUsage, unless_at_fault}

none_at_fault : (k : ErrorKind) (ks : Kinds) (meaning : Option Requested) → IsAmong k ks → unless_at_fault ks meaning ≡ None
none_at_fault k [] meaning among = absurd among
none_at_fault k (x ∷ xs) meaning among = refl

not_only : (k asked : ErrorKind) (ks : Kinds) → IsAmong k ks → k ≢ asked → ks ≢ asked ∷ []
not_only k asked ks among other e =
    let in_asked : IsAmong k (asked ∷ []) = subst (IsAmong k) e among in
    elim in_asked [ inl is ↦ other is | inr none ↦ none ]

-- a refusal that is not for want of memory, and what is told of it
told_among : (words : List Text) (k : ErrorKind) (fault : UsageFault) → IsAmong k (fault_of gasday words) → IsTelling k fault → IsTold words fault
told_among words k (Help text) among is_help =
    (none_at_fault k _ (meaning_of words) among, subst (λ (x : ErrorKind). IsAmong x (fault_of gasday words)) is_help among)
told_among words k (Version text) among is_version =
    (none_at_fault k _ (meaning_of words) among, subst (λ (x : ErrorKind). IsAmong x (fault_of gasday words)) is_version among)
told_among words k (Usage text) among other =
    (none_at_fault k _ (meaning_of words) among, not_only k kind.DisplayHelp _ among other.0, not_only k kind.DisplayVersion _ among other.1)
told_among words k OutOfMemory among telling = tt

told_no_memory : (words : List Text) (k : ErrorKind) (fault : UsageFault) → k ≡ kind.OutOfMemory → IsTelling k fault → IsTold words fault
told_no_memory words k (Help text) no_memory is_help = let bad : kind.OutOfMemory ≡ kind.DisplayHelp = sym no_memory ∙ is_help in cc
told_no_memory words k (Version text) no_memory is_version = let bad : kind.OutOfMemory ≡ kind.DisplayVersion = sym no_memory ∙ is_version in cc
told_no_memory words k (Usage text) no_memory other = absurd (other.2 no_memory)
told_no_memory words k OutOfMemory no_memory telling = tt

-- what is told of a refusal by clap is told rightly of the words
pub told : (words : List Text) (e : Error) (fault : UsageFault) → HasKind (fault_of gasday words) e → IsTelling (kind_of e) fault → IsTold words fault
told words e fault has telling =
    elim has [ inl no_memory ↦ told_no_memory words (kind_of e) fault no_memory telling | inr among ↦ told_among words (kind_of e) fault among telling ]

-- words that clap takes and that mean no order are at fault
told_of_no_order : (words : List Text) (fault : UsageFault) → fault_of gasday words ≡ [] → meaning_of words ≡ None → IsUsage fault → IsTold words fault
told_of_no_order words (Help text) none nothing usage = absurd usage
told_of_no_order words (Version text) none nothing usage = absurd usage
told_of_no_order words (Usage text) none nothing usage = (
  ap (λ (ks : Kinds). unless_at_fault ks (meaning_of words)) none ∙ nothing,
  (λ asks. let bad : kind.DisplayHelp ∷ [] ≡ [] = sym asks ∙ none in cc),
  λ asks. let bad : kind.DisplayVersion ∷ [] ≡ [] = sym asks ∙ none in cc,
)
told_of_no_order words OutOfMemory none nothing usage = tt

-- want of memory is told as such
pub memory_told : (k : ErrorKind) (fault : UsageFault) → k ≡ kind.OutOfMemory → IsTelling k fault → fault ≡ OutOfMemory
memory_told k (Help text) no_memory is_help = let bad : kind.OutOfMemory ≡ kind.DisplayHelp = sym no_memory ∙ is_help in cc
memory_told k (Version text) no_memory is_version = let bad : kind.OutOfMemory ≡ kind.DisplayVersion = sym no_memory ∙ is_version in cc
memory_told k (Usage text) no_memory other = absurd (other.2 no_memory)
memory_told k OutOfMemory no_memory telling = refl

-- what is told of words that clap takes, and by which no request comes
pub told_of_none : (words : List Text) (fault : UsageFault) → fault_of gasday words ≡ [] → IsNoRequest (meaning_of words) fault → IsTold words fault
told_of_none words fault none why = elim why [
  | inl short ↦ subst (IsTold words) (sym short) tt
  | inr usage ↦ told_of_no_order words fault none usage.0 usage.1
]

-- words that clap takes and that mean a request are refused for want of memory alone
pub only_memory : (meaning : Option Requested) (fault : UsageFault) → IsNoRequest meaning fault → is_some meaning ≡ true → fault ≡ OutOfMemory
only_memory meaning fault why some = elim why [
  | inl short ↦ short
  | inr usage ↦ let bad : false ≡ true = sym (ap is_some usage.0) ∙ some in cc
]
