use Rattle.std.proofs.Common.{◌≡◌, ◌∙◌, ap, false}
use Rattle.std.proofs.lemmas.Result.{IfOk-at_ok, IfOk-weaker}
use Rattle.clap.specs.Words.{App, app_of, with_subcommand}
use Rattle.clap.specs.declared.builder.command.Command.TheViews.{out-Command}
use Rattle.gasday_words.proofs.line.with_command.Goals as goal

pub returns-in-Ok : goal.returns-in-Ok
returns-in-Ok c =
    let local = IfOk-at_ok (λ d. (out-Command d).has_globals ≡ false) c.in-Ok.is c.requires in
    let app_is : (a : App) → _ → app_of c.in-Ok.command ≡ a = λ a h. IfOk-at_ok (λ d. app_of d ≡ a) c.in-Ok.is h in
    IfOk-weaker c.subcommand.result _ _ (λ r h a is. h.shape local ∙ ap (λ (b : App). with_subcommand (app_of c.args.line) b.top) (app_is a is)) c.subcommand.ensures
