use Rattle.std.proofs.Common.{◌≡◌, ap, ◌∙◌, refl, Some, false, true, pos}
use Rattle.jiff_core.specs.Time.{IsHms}
use Rattle.jiff_core.specs.Date.{IsYmd}
use Rattle.cash_lexer.proofs.Moments.{back_64, back_8, back_16, moment_taken, moment_refused}
use Rattle.cash_lexer.proofs.dates.moment.Goals as goal

pub returns-in-Ok : goal.returns-in-Ok
returns-in-Ok c =
    let year = back_16 c.args.year c.in_ok-year.year c.in_ok-year.ensures in
    let month = back_8 c.args.month c.in_ok-month.month c.in_ok-month.ensures in
    let day = back_8 c.args.day c.in_ok-day.day c.in_ok-day.ensures in
    let hour = back_8 c.args.hour c.in_ok-hour.hour c.in_ok-hour.ensures in
    let minute = back_8 c.args.minute c.in_ok-minute.minute c.in_ok-minute.ensures in
    let second = back_8 c.args.second c.in_ok-second.second c.in_ok-second.ensures in
    let taken = rw (year, month, day, hour, minute, second) at (c.in-Ok.ensures.succeeds.0 refl) in
    let value = c.in-Ok.ensures.value in
    let date : IsYmd (pos c.args.year) (pos c.args.month) (pos c.args.day) c.in-Ok.moment.date = (value.0.0 ∙ year, value.0.1 ∙ month, value.0.2 ∙ day) in
    let time : IsHms (pos c.args.hour) (pos c.args.minute) (pos c.args.second) (pos 0) c.in-Ok.moment.time = (value.1.0 ∙ hour, value.1.1 ∙ minute, value.1.2 ∙ second, value.1.3) in
    ap Some (back_64 c.seconds_of.result c.seconds_of.type_inv ∙ c.seconds_of.ensures c.args.year c.args.month c.args.day c.args.hour c.args.minute c.args.second date time)
    ∙ moment_taken c.args.year c.args.month c.args.day c.args.hour c.args.minute c.args.second taken

pub returns-in-Err : goal.returns-in-Err
returns-in-Err c =
    let year = back_16 c.args.year c.in_ok-year.year c.in_ok-year.ensures in
    let month = back_8 c.args.month c.in_ok-month.month c.in_ok-month.ensures in
    let day = back_8 c.args.day c.in_ok-day.day c.in_ok-day.ensures in
    let hour = back_8 c.args.hour c.in_ok-hour.hour c.in_ok-hour.ensures in
    let minute = back_8 c.args.minute c.in_ok-minute.minute c.in_ok-minute.ensures in
    let second = back_8 c.args.second c.in_ok-second.second c.in_ok-second.ensures in
    let succeeds = rw (year, month, day, hour, minute, second) at c.in-Err.ensures.succeeds in
    moment_refused c.args.year c.args.month c.args.day c.args.hour c.args.minute c.args.second (λ parts. let taken : false ≡ true = succeeds.1 parts in cc)
