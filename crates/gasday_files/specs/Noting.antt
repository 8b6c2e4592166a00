-- What was written to a writer of which errors are noted.
use Rattle.std.specs.Prelude.{ℕ, List, Option}
use Rattle.gasday_files.specs.declared.noted.Noted.{Noted}

-- the reader or writer itself
abbrev pub stream_of : {T : Type 0} → Noted T → T
stream_of n = n.stream

-- what was written to the writer itself
abbrev pub noted : {W : Type 0} → (W → Option (List ℕ)) → Noted W → Option (List ℕ)
noted contents n = contents n.stream
