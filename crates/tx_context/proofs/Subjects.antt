-- What rows speak of, in order.
use Rattle.std.proofs.Common.{◌≡◌, ℕ, suc, ◌+◌, ◌<◌, Bool, true, false, cond, ◌&&◌, ◌||◌, List, [], ◌∷◌, ◌++◌, length, take, drop, get_or, Result, Ok, refl, ap, sym, ◌∙◌, add-one, drop-cons}
use Rattle.std.proofs.Math.Seq.{take-suc}
use Rattle.std.proofs.lemmas.List.Folds.{list_any_more}
use Rattle.std.specs.List.{list_any, list_all}
use Rattle.cash_base.specs.Failing.{◌>>◌, refused_if}
use Rattle.tx_context.specs.declared.verdict.TableFault.{TableFault}
use Rattle.std.specs.declared.cmp.Ordering.{Ordering}
use Rattle.std.specs.declared.cmp.Ordering.TheVariants.{Less, Equal, Greater}
use Rattle.std.specs.Ordering.{is_eq, nat_cmp, ordering_then}
use Rattle.std.specs.Cmp.Lexicographic.{slice_cmp}
use Rattle.std.specs.Str.{bytes_eq}
use Rattle.std.proofs.lemmas.Map.Text.{is_eq-slice_cmp}
use Rattle.tx_context.specs.declared.verdict.Kind.{Kind}
use Rattle.tx_context.specs.declared.verdict.Kind.TheVariants.{Single, Multi, DataSig}
use Rattle.tx_context.specs.declared.verdict.Subject.{Subject}
use Rattle.tx_context.specs.contracts.verdict.KindOrd.TheImpl as kind_ord
use Rattle.tx_context.specs.contracts.verdict.SubjectOrd.TheImpl as subject_ord
use Rattle.tx_context.specs.Table.{Row, is_same_kind, speaks_of, has_needless_message, is_empty_and_good, has_bytes, row_check, rows_check}

abbrev pub subject_cmp : Subject → Subject → Ordering
subject_cmp = (subject_ord.ghosts).cmp

abbrev kind_cmp : Kind → Kind → Ordering
kind_cmp = (kind_ord.ghosts).cmp

both_equal : (a b : Ordering) → is_eq (ordering_then a b) ≡ (is_eq a && is_eq b)
both_equal Less b = refl
both_equal Equal b = refl
both_equal Greater b = refl

same_kinds : (a b : Kind) → is_eq (kind_cmp a b) ≡ is_same_kind a b
same_kinds Single Single = refl
same_kinds Single Multi = refl
same_kinds Single DataSig = refl
same_kinds Multi Single = refl
same_kinds Multi Multi = refl
same_kinds Multi DataSig = refl
same_kinds DataSig Single = refl
same_kinds DataSig Multi = refl
same_kinds DataSig DataSig = refl

abbrev same_bytes : List ℕ → List ℕ → Ordering
same_bytes = slice_cmp nat_cmp

-- two subjects are equal in the order exactly where a row that has the one speaks of the other
same_subject : (s q : Subject) → is_eq (subject_cmp s q)
    ≡ (is_same_kind s.kind q.kind && (bytes_eq s.sig.now q.sig.now && (bytes_eq s.key.now q.key.now && bytes_eq s.message.now q.message.now)))
same_subject s q =
    let last = same_bytes s.message.now q.message.now in
    let two : is_eq (ordering_then (same_bytes s.key.now q.key.now) last) ≡ (bytes_eq s.key.now q.key.now && bytes_eq s.message.now q.message.now) =
    both_equal (same_bytes s.key.now q.key.now) last
    ∙ ap (λ b. b && is_eq last) (is_eq-slice_cmp s.key.now q.key.now) ∙ ap (λ b. bytes_eq s.key.now q.key.now && b) (is_eq-slice_cmp s.message.now q.message.now) in
    let three : is_eq (ordering_then (same_bytes s.sig.now q.sig.now) (ordering_then (same_bytes s.key.now q.key.now) last))
    ≡ (bytes_eq s.sig.now q.sig.now && (bytes_eq s.key.now q.key.now && bytes_eq s.message.now q.message.now)) =
    both_equal (same_bytes s.sig.now q.sig.now) (ordering_then (same_bytes s.key.now q.key.now) last)
    ∙ ap (λ b. b && is_eq (ordering_then (same_bytes s.key.now q.key.now) last)) (is_eq-slice_cmp s.sig.now q.sig.now)
    ∙ ap (λ b. bytes_eq s.sig.now q.sig.now && b) two in
    both_equal (kind_cmp s.kind q.kind) (ordering_then (same_bytes s.sig.now q.sig.now) (ordering_then (same_bytes s.key.now q.key.now) last))
    ∙ ap (λ b. b && is_eq (ordering_then (same_bytes s.sig.now q.sig.now) (ordering_then (same_bytes s.key.now q.key.now) last))) (same_kinds s.kind q.kind)
    ∙ ap (λ b. is_same_kind s.kind q.kind && b) three

-- the test of a row that speaks of a subject
abbrev pub spoken : Subject → Row → Bool
spoken q row = speaks_of q.kind q.sig.now q.key.now q.message.now row

-- the subject is that of the row
pub record IsOf (row : Row) (s : Subject) : Type 0 where
  pub kind : s.kind ≡ row.kind
  pub sig : s.sig.now ≡ row.sig
  pub key : s.key.now ≡ row.key
  pub message : s.message.now ≡ row.message

equal_spoken : (row : Row) (s q : Subject) → IsOf row s → is_eq (subject_cmp s q) ≡ spoken q row
equal_spoken row s q is =
    same_subject s q ∙ ap (λ k. is_same_kind k q.kind && (bytes_eq s.sig.now q.sig.now && (bytes_eq s.key.now q.key.now && bytes_eq s.message.now q.message.now))) is.kind
    ∙ ap (λ b. is_same_kind row.kind q.kind && (bytes_eq b q.sig.now && (bytes_eq s.key.now q.key.now && bytes_eq s.message.now q.message.now))) is.sig
    ∙ ap (λ b. is_same_kind row.kind q.kind && (bytes_eq row.sig q.sig.now && (bytes_eq b q.key.now && bytes_eq s.message.now q.message.now))) is.key
    ∙ ap (λ b. is_same_kind row.kind q.kind && (bytes_eq row.sig q.sig.now && (bytes_eq row.key q.key.now && bytes_eq b q.message.now))) is.message

one_more : (b had : Bool) → cond b true had ≡ had || b
one_more true true = refl
one_more true false = refl
one_more false true = refl
one_more false false = refl

-- with one more subject, that of the next row, the set has those of one row more
pub seen_more : (rows : List Row) (i : ℕ) (row : Row) (s q : Subject) (had now : Bool) → i < length rows → row ≡ get_or rows i row → IsOf row s
    → had ≡ list_any (spoken q) (take i rows) → now ≡ cond (is_eq (subject_cmp s q)) true had → now ≡ list_any (spoken q) (take (i + 1) rows)
seen_more rows i row s q had now within at is before after =
    after ∙ one_more (is_eq (subject_cmp s q)) had ∙ ap (λ b. b || is_eq (subject_cmp s q)) before
    ∙ ap (λ b. list_any (spoken q) (take i rows) || b) (equal_spoken row s q is ∙ ap (spoken q) at)
    ∙ sym (list_any_more (spoken q) rows i row within)

-- an absent subject is that of no earlier row
pub unseen : (rows : List Row) (i : ℕ) (row : Row) (s : Subject) (had : Bool) → IsOf row s → had ≡ list_any (spoken s) (take i rows) → had ≡ false
    → list_any (speaks_of row.kind row.sig row.key row.message) (take i rows) ≡ false
unseen rows i row s had is before none =
    ap (λ k. list_any (speaks_of k row.sig row.key row.message) (take i rows)) (sym is.kind)
    ∙ ap (λ b. list_any (speaks_of s.kind b row.key row.message) (take i rows)) (sym is.sig)
    ∙ ap (λ b. list_any (speaks_of s.kind s.sig.now b row.message) (take i rows)) (sym is.key)
    ∙ ap (λ b. list_any (speaks_of s.kind s.sig.now s.key.now b) (take i rows)) (sym is.message) ∙ sym before ∙ none

-- ---- the tests of the rows, one row on

let_by : (test : Bool) (fault : TableFault) (rest : Result (Unit {0}) TableFault) → test ≡ false → (refused_if test fault >> rest) ≡ rest
let_by true fault rest h = absurd cc
let_by false fault rest h = refl

let_last : (test : Bool) (fault : TableFault) → test ≡ false → refused_if test fault ≡ Ok tt
let_last true fault h = absurd cc
let_last false fault h = refl

row_passes : (earlier : List Row) (row : Row) → has_needless_message row ≡ false → is_empty_and_good row ≡ false
    → list_any (speaks_of row.kind row.sig row.key row.message) earlier ≡ false → row_check earlier row ≡ Ok tt
row_passes earlier row a b c =
    let_by _ _ _ a ∙ let_by _ _ _ b ∙ let_last _ _ c

pub checks_on : (rows : List Row) (i : ℕ) (row : Row) → i < length rows → row ≡ get_or rows i row → has_needless_message row ≡ false → is_empty_and_good row ≡ false
    → list_any (speaks_of row.kind row.sig row.key row.message) (take i rows) ≡ false
    → rows_check (take (i + 1) rows) (drop (i + 1) rows) ≡ rows_check (take i rows) (drop i rows)
checks_on rows i row within at a b c =
    let rest = drop (suc i) rows in
    let front : take (suc i) rows ≡ take i rows ++ row ∷ [] = take-suc rows i row within ∙ ap (λ r. take i rows ++ r ∷ []) (sym at) in
    let back : drop i rows ≡ row ∷ rest = drop-cons rows i row within ∙ ap (λ r. r ∷ rest) (sym at) in
    ap (λ n. rows_check (take n rows) (drop n rows)) (add-one i) ∙ ap (λ t. rows_check t rest) front
    ∙ sym (ap (rows_check (take i rows)) back ∙ ap (λ r. r >> rows_check (take i rows ++ row ∷ []) rest) (row_passes (take i rows) row a b c))

pub bytes_on : (rows : List Row) (i : ℕ) (row : Row) → i < length rows → row ≡ get_or rows i row → has_bytes row ≡ true
    → list_all has_bytes (drop (i + 1) rows) ≡ list_all has_bytes (drop i rows)
bytes_on rows i row within at h =
    let back : drop i rows ≡ row ∷ drop (suc i) rows = drop-cons rows i row within ∙ ap (λ r. r ∷ drop (suc i) rows) (sym at) in
    ap (λ n. list_all has_bytes (drop n rows)) (add-one i) ∙ sym (ap (list_all has_bytes) back ∙ ap (λ b. b && list_all has_bytes (drop (suc i) rows)) h)
