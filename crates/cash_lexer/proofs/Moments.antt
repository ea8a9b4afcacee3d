-- The calendar and the clock, as `jiff` has them.
use Rattle.std.proofs.Common.{◌≡◌, ℕ, ◌+◌, ◌*◌, ◌<◌, ◌≤◌, Bool, true, false, cond, Some, None, ℤ, pos, negsuc, ◌+ℤ◌, ◌-ℤ◌, ◌*ℤ◌, refl, sym, ap, ◌∙◌, subst, arith}
use Rattle.std.specs.Prelude.{◌&&◌, int_div}
use Rattle.std.proofs.lemmas.Bool.{leb-true, le-leb}
use Rattle.std.proofs.Common.{to_z, of_z, w8, w16, w64, to_z-of_z, ◌^◌}
use lib.Signed.{mag}
use Rattle.jiff_core.proofs.SignedLemmas.{signed_arith, back_small, fits_between}
use Rattle.jiff_core.specs.Calendar.{days_in_month, days_from_civil, day_count, IsDate}
use Rattle.jiff_core.specs.Date.{IsYmd, epoch_day}
use Rattle.jiff_core.specs.Time.{IsTime, IsHms, time_nanos}
use Rattle.jiff_core.specs.DateTime.{civil_nanos}
use Rattle.jiff_core.specs.declared.civil.date.Date.{Date}
use Rattle.jiff_core.specs.declared.civil.datetime.DateTime.{DateTime}
use Rattle.cash_lexer.specs.Dates.{is_day, is_time, seconds, moment}

-- ---- the tests

and_left : (a b : Bool) → (a && b) ≡ true → a ≡ true
and_left true b is = refl
and_left false b is = is

and_right : (a b : Bool) → (a && b) ≡ true → b ≡ true
and_right true b is = is
and_right false b is = absurd cc

and_both : {a b : Bool} → a ≡ true → b ≡ true → (a && b) ≡ true
and_both {a = true} p q = q
and_both {a = false} p q = p

-- what the test of a day tells
pub record IsDay (year month day : ℕ) : Type 0 where
  pub year_most : year ≤ 9999
  pub month_least : 1 ≤ month
  pub month_most : month ≤ 12
  pub day_least : 1 ≤ day
  pub day_most : day ≤ days_in_month (pos year) month

pub record IsClock (hour minute second : ℕ) : Type 0 where
  pub hour_most : hour ≤ 23
  pub minute_most : minute ≤ 59
  pub second_most : second ≤ 59

day_from : (y m d : ℕ) → is_day y m d ≡ true → IsDay y m d
day_from y m d is =
    let abcd = and_left _ _ is in
    let abc = and_left _ _ abcd in
    let ab = and_left _ _ abc in
    record {
      year_most = leb-true _ _ (and_left _ _ ab);
      month_least = leb-true _ _ (and_right _ _ ab);
      month_most = leb-true _ _ (and_right _ _ abc);
      day_least = leb-true _ _ (and_right _ _ abcd);
      day_most = leb-true _ _ (and_right _ _ is);
    }

day_to : (y m d : ℕ) → IsDay y m d → is_day y m d ≡ true
day_to y m d h = and_both (and_both (and_both (and_both (le-leb _ _ h.year_most) (le-leb _ _ h.month_least)) (le-leb _ _ h.month_most)) (le-leb _ _ h.day_least)) (le-leb _ _ h.day_most)

clock_from : (h m s : ℕ) → is_time h m s ≡ true → IsClock h m s
clock_from h m s is =
    let ab = and_left _ _ is in
    record {
      hour_most = leb-true _ _ (and_left _ _ ab);
      minute_most = leb-true _ _ (and_right _ _ ab);
      second_most = leb-true _ _ (and_right _ _ is);
    }

clock_to : (h m s : ℕ) → IsClock h m s → is_time h m s ≡ true
clock_to h m s c = and_both (and_both (le-leb _ _ c.hour_most) (le-leb _ _ c.minute_most)) (le-leb _ _ c.second_most)

month_cases : (a b c : Bool) → cond a (cond b 29 28) (cond c 30 31) ≤ 31
month_cases true true c = omega arith
month_cases true false c = omega arith
month_cases false b true = omega arith
month_cases false b false = omega arith

days_in_month_most : (y : ℤ) (m : ℕ) → days_in_month y m ≤ 31
days_in_month_most y m = month_cases _ _ _

none_cases : (t : Bool) (x : ℤ) → (t ≡ true → ⊥) → None ≡ cond t (Some x) None
none_cases true x not_so = absurd (not_so refl)
none_cases false x not_so = refl

-- where the day or the time isn't, there is no moment
no_moment : (y m d h mi s : ℕ) → (IsDay y m d → IsClock h mi s → ⊥) → None ≡ moment y m d h mi s
unfolding moment
no_moment y m d h mi s not_both =
    none_cases (is_day y m d && is_time h mi s) _ (λ is. not_both (day_from y m d (and_left _ _ is)) (clock_from h mi s (and_right (is_day y m d) _ is)))

some_moment : (y m d h mi s : ℕ) → IsDay y m d → IsClock h mi s → Some (seconds y m d h mi s) ≡ moment y m d h mi s
unfolding moment
some_moment y m d h mi s day clock =
    ap (λ t. cond t (Some (seconds y m d h mi s)) None) (sym (and_both (day_to y m d day) (clock_to h mi s clock)))

pub no_year : (y m d h mi s : ℕ) → (y < 32768 → ⊥) → None ≡ moment y m d h mi s
no_year y m d h mi s large = no_moment y m d h mi s (λ day clock. let most = day.year_most in large (omega arith))

pub no_month : (y m d h mi s : ℕ) → (m < 128 → ⊥) → None ≡ moment y m d h mi s
no_month y m d h mi s large = no_moment y m d h mi s (λ day clock. let most = day.month_most in large (omega arith))

pub no_day : (y m d h mi s : ℕ) → (d < 128 → ⊥) → None ≡ moment y m d h mi s
no_day y m d h mi s large = no_moment y m d h mi s (λ day clock. let most = day.day_most in let longest = days_in_month_most (pos y) m in large (omega arith))

pub no_hour : (y m d h mi s : ℕ) → (h < 128 → ⊥) → None ≡ moment y m d h mi s
no_hour y m d h mi s large = no_moment y m d h mi s (λ day clock. let most = clock.hour_most in large (omega arith))

pub no_minute : (y m d h mi s : ℕ) → (mi < 128 → ⊥) → None ≡ moment y m d h mi s
no_minute y m d h mi s large = no_moment y m d h mi s (λ day clock. let most = clock.minute_most in large (omega arith))

pub no_second : (y m d h mi s : ℕ) → (s < 128 → ⊥) → None ≡ moment y m d h mi s
no_second y m d h mi s large = no_moment y m d h mi s (λ day clock. let most = clock.second_most in large (omega arith))

-- ---- as `jiff` says it

day_of_jiff : (y m d : ℕ) → IsDate (pos y) (pos m) (pos d) → IsDay y m d
day_of_jiff y m d h = record {
  year_most = omega (arith, signed_arith, h.0.1);
  month_least = omega (arith, signed_arith, h.1.0);
  month_most = omega (arith, signed_arith, h.1.1);
  day_least = omega (arith, signed_arith, h.2.0);
  day_most = omega (arith, signed_arith, h.2.1);
}

jiff_of_day : (y m d : ℕ) → IsDay y m d → IsDate (pos y) (pos m) (pos d)
jiff_of_day y m d h =
    let a = h.year_most in
    let b = h.month_least in
    let c = h.month_most in
    let e = h.day_least in
    let f = h.day_most in
    ((omega (arith, signed_arith), omega (arith, signed_arith)), (omega (arith, signed_arith), omega (arith, signed_arith)), (omega (arith, signed_arith), omega (arith, signed_arith)))

clock_of_jiff : (h m s : ℕ) → IsTime (pos h) (pos m) (pos s) (pos 0) → IsClock h m s
clock_of_jiff h m s t = record {
  hour_most = omega (arith, signed_arith, t.0.1);
  minute_most = omega (arith, signed_arith, t.1.1);
  second_most = omega (arith, signed_arith, t.2.1);
}

jiff_of_clock : (h m s : ℕ) → IsClock h m s → IsTime (pos h) (pos m) (pos s) (pos 0)
jiff_of_clock h m s c =
    let a = c.hour_most in
    let b = c.minute_most in
    let e = c.second_most in
    ((omega (arith, signed_arith), omega (arith, signed_arith)), (omega (arith, signed_arith), omega (arith, signed_arith)), (omega (arith, signed_arith), omega (arith, signed_arith)), (omega (arith, signed_arith), omega (arith, signed_arith)))

-- `jiff` refuses what is no moment, and only that
pub moment_refused : (y m d h mi s : ℕ) → (IsDate (pos y) (pos m) (pos d) × IsTime (pos h) (pos mi) (pos s) (pos 0) → ⊥) → None ≡ moment y m d h mi s
moment_refused y m d h mi s refused = no_moment y m d h mi s (λ day clock. refused (jiff_of_day y m d day, jiff_of_clock h mi s clock))

pub moment_taken : (y m d h mi s : ℕ) → IsDate (pos y) (pos m) (pos d) × IsTime (pos h) (pos mi) (pos s) (pos 0) → Some (seconds y m d h mi s) ≡ moment y m d h mi s
moment_taken y m d h mi s taken = some_moment y m d h mi s (day_of_jiff y m d taken.0) (clock_of_jiff h mi s taken.1)

-- ---- numbers of `jiff`

pub back_8 : (n : ℕ) (z : ℤ) → (n < 128) × (z ≡ pos n) → to_z w8 (of_z w8 z) ≡ pos n
back_8 n z h = subst (λ x. to_z w8 (of_z w8 x) ≡ pos n) (sym h.1) (back_small w8 (pos n) h.0)

pub back_16 : (n : ℕ) (z : ℤ) → (n < 32768) × (z ≡ pos n) → to_z w16 (of_z w16 z) ≡ pos n
back_16 n z h = subst (λ x. to_z w16 (of_z w16 x) ≡ pos n) (sym h.1) (back_small w16 (pos n) h.0)

pub back_64 : (z : ℤ) → mag z < 2 ^ 63 → to_z w64 (of_z w64 z) ≡ z
back_64 (pos n) small = back_small w64 (pos n) small
back_64 (negsuc n) small = to_z-of_z (fits_between w64 (negsuc n) (omega (arith, small)))

-- ---- seconds

exact_div : (z : ℤ) → int_div (z *ℤ pos 1000000000) (pos 1000000000) ≡ z
exact_div z = omega (arith, signed_arith)

none_apart : (z : ℤ) → z -ℤ z ≡ pos 0
none_apart z = omega (arith, signed_arith)

start_day : days_from_civil (pos 1970) 1 1 ≡ pos 0
unfolding days_from_civil
start_day = none_apart (pos (day_count (pos 1970) 1 1))

-- the nanoseconds of a day and a time since a moment that is day 0
nanos_are : (day start : ℤ) (s : ℕ) → start ≡ pos 0 → (day *ℤ pos 86400000000000 +ℤ pos (s * 1000000000 + 0)) -ℤ (start *ℤ pos 86400000000000 +ℤ pos 0) ≡ (day *ℤ pos 86400 +ℤ pos s) *ℤ pos 1000000000
nanos_are day start s zero = omega (arith, signed_arith, zero)

pos_same : {a b : ℕ} → pos a ≡ pos b → a ≡ b
pos_same e = cc

-- the day of a date with these parts
day_is : (y m d : ℕ) (date : Date) → IsYmd (pos y) (pos m) (pos d) date → epoch_day date ≡ days_from_civil (pos y) m d
day_is y m d date h =
    ap (λ z. days_from_civil z date.month date.day) h.0 ∙ ap (λ n. days_from_civil (pos y) n date.day) (pos_same h.1) ∙ ap (λ n. days_from_civil (pos y) m n) (pos_same h.2)

nanos_of : (y m d h mi s : ℕ) (at : DateTime) → IsYmd (pos y) (pos m) (pos d) at.date → IsHms (pos h) (pos mi) (pos s) (pos 0) at.time
    → civil_nanos at ≡ days_from_civil (pos y) m d *ℤ pos 86400000000000 +ℤ pos ((h * 3600 + mi * 60 + s) * 1000000000 + 0)
unfolding civil_nanos
nanos_of y m d h mi s at day time =
    let hour : at.time.hour ≡ h = pos_same time.0 in
    let minute : at.time.minute ≡ mi = pos_same time.1 in
    let second : at.time.second ≡ s = pos_same time.2 in
    let rest : at.time.subsec_nanosecond ≡ 0 = pos_same time.3 in
    let nanos : time_nanos at.time ≡ (h * 3600 + mi * 60 + s) * 1000000000 + 0 = omega (arith, hour, minute, second, rest) in
    ap (λ z. z *ℤ pos 86400000000000 +ℤ pos (time_nanos at.time)) (day_is y m d at.date day) ∙ ap (λ n. days_from_civil (pos y) m d *ℤ pos 86400000000000 +ℤ pos n) nanos

pub seconds_are : (y m d h mi s : ℕ) (at start : DateTime) (nanos : ℤ) → nanos ≡ civil_nanos at -ℤ civil_nanos start
    → IsYmd (pos 1970) (pos 1) (pos 1) start.date → IsHms (pos 0) (pos 0) (pos 0) (pos 0) start.time
    → IsYmd (pos y) (pos m) (pos d) at.date → IsHms (pos h) (pos mi) (pos s) (pos 0) at.time → int_div nanos (pos 1000000000) ≡ seconds y m d h mi s
unfolding seconds
seconds_are y m d h mi s at start nanos is start_date start_time date time =
    let whole : nanos ≡ (days_from_civil (pos y) m d *ℤ pos 86400 +ℤ pos (h * 3600 + mi * 60 + s)) *ℤ pos 1000000000 =
    is ∙ ap (λ z. z -ℤ civil_nanos start) (nanos_of y m d h mi s at date time)
    ∙ ap (λ z. (days_from_civil (pos y) m d *ℤ pos 86400000000000 +ℤ pos ((h * 3600 + mi * 60 + s) * 1000000000 + 0)) -ℤ z) (nanos_of 1970 1 1 0 0 0 start start_date start_time)
    ∙ nanos_are (days_from_civil (pos y) m d) (days_from_civil (pos 1970) 1 1) (h * 3600 + mi * 60 + s) start_day in
    ap (λ z. int_div z (pos 1000000000)) whole ∙ exact_div (days_from_civil (pos y) m d *ℤ pos 86400 +ℤ pos (h * 3600 + mi * 60 + s))
