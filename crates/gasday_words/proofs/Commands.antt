-- A command is added to a command line.
use Rattle.std.proofs.Common.{◌≡◌, ap}
use Rattle.clap.specs.Words.{App, with_subcommand}

-- the same command, added to command lines that are the same
pub and : (command : App) {a b : App} → a ≡ b → with_subcommand a command.top ≡ with_subcommand b command.top
and command e = ap (λ (line : App). with_subcommand line command.top) e
