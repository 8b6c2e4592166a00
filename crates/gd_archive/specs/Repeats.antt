-- Whether a posting that is kept is one that was published again.
use Rattle.std.specs.Prelude.{◌≡◌, ℕ, pos, List, Some}
use Rattle.sha2.specs.Sha256.{sha256}
use Rattle.sqlite.specs.Order.{Row, column}
use Rattle.sqlite.specs.declared.types.Value.TheVariants.{Int}
use Rattle.gd_board.specs.declared.posting.Posting.{Posting}
use Rattle.gd_body.specs.Body.{IsBody}
use Rattle.gd_archive.specs.Findings.{sum_of}
use Rattle.gd_archive.specs.Soundness.{number, posting_at}
use Rattle.gd_archive.specs.declared.fault.Rule.TheVariants.{Spread}
use Rattle.gd_archive.specs.declared.repeat.Repeat.{Repeat}
use Rattle.gd_archive.specs.declared.repeat.Repeat.TheVariants.{Same, Other}

-- a row of round, body and rule keeps this very posting, by the rule of the spread
abbrev pub IsKeptIn : Row → Posting → Type 0
IsKeptIn row p = (column row 2 ≡ Int (pos (number Spread))) × (posting_at p.book p.cycle (column row 0) (column row 1) ≡ Some p)

-- How a row goes with a posting: it keeps that, or it keeps another one, with the SHA-256 of the body that it keeps and of one by which
-- that posting would be kept.
abbrev pub IsRepeat : Row → Posting → Repeat → Type 0
IsRepeat row p Same = IsKeptIn row p
IsRepeat row p (Other kept published) =
    ¬ (IsKeptIn row p) × (kept ≡ sum_of (column row 1)) × ((body : List ℕ) × IsBody p body × (published ≡ sha256 body))
