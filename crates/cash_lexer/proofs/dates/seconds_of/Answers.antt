use Rattle.std.proofs.Common.{sym, ◌∙◌, subst, pos}
use Rattle.jiff_core.specs.Date.{IsYmd}
use Rattle.cash_lexer.proofs.Moments.{back_64, seconds_are}
use Rattle.cash_lexer.proofs.dates.seconds_of.Goals as goal

pub returns : goal.returns
returns c = λ year month day hour minute second date time.
    let start : IsYmd (pos 1970) (pos 1) (pos 1) c.at-epoch.result.date = subst (IsYmd (pos 1970) (pos 1) (pos 1)) (sym c.at-epoch.ensures.date) c.date.ensures in
    back_64 c.as_secs.result c.as_secs.type_inv ∙ c.as_secs.ensures
    ∙ seconds_are year month day hour minute second c.args.moment c.at-epoch.result c.duration_since.result.nanos c.duration_since.ensures start c.at-epoch.ensures.time date time
