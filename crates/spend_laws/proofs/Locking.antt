-- The locking script of a redeem script: how it is read, and what it leaves.
use Rattle.std.proofs.Common.{◌≡◌, ℕ, ◌+◌, true, eqb, ◌&&◌, List, [], ◌∷◌, ◌++◌, length, get_or, Ok, refl, sym, ap, ◌∙◌, arith, length-append}
use Rattle.std.proofs.Math.Seq.{get_or-append_seam}
use Rattle.std.proofs.lemmas.Slice.Eq.{bytes_eq-Decides}
use Rattle.std.specs.List.{AllByRecursion}
use Rattle.ripemd160.specs.Ripemd160.{ripemd160}
use Rattle.sha2.specs.Sha256.{sha256}
use Rattle.cash_base.specs.Operand.{truth_bytes}
use Rattle.cash_base.specs.Push.{push_prefix}
use Rattle.script_codec.specs.declared.instr.Instr.{Instr}
use Rattle.script_codec.specs.declared.instr.Instr.TheVariants.{Do}
use Rattle.script_codec.specs.Spelling.{minimal_push, spelling, spellings}
use Rattle.script_codec.specs.Reading.{push}
use Rattle.opcode_table.specs.Stack.{Stack}
use Rattle.opcode_table.specs.Table.{rows}
use Rattle.bch_vm.specs.Setting.{Setting}
use Rattle.bch_vm.specs.Script.{run, state, beginning, Progress}
use Rattle.bch_vm.specs.Spend.{is_p2sh}
use Rattle.bch_vm.specs.Law.{locking_script}
use Rattle.spend_laws.proofs.Spelled.{Laws, IsFit, push_fit, do_fit}

pub length-digest : (message : List ℕ) → length (ripemd160 message) ≡ 20
unfolding ripemd160
length-digest message = refl

abbrev pub digest : List ℕ → List ℕ
digest redeem = ripemd160 (sha256 redeem)

abbrev pub locking_code : List ℕ → List Instr
locking_code redeem = Do (record { 0 = 0xa9 }) ∷ push (digest redeem) ∷ Do (record { 0 = 0x87 }) ∷ []

-- twenty bytes are pushed directly
push-twenty : (d : List ℕ) → length d ≡ 20 → minimal_push d ≡ 0x14 ∷ d
push-twenty [] is = absurd (omega (arith, is))
push-twenty (a ∷ []) is = absurd (omega (arith, is))
push-twenty (a ∷ b ∷ more) is = ap (λ n. push_prefix n ++ (a ∷ b ∷ more)) is

pub locking-spelled : (redeem : List ℕ) → locking_script redeem ≡ spellings (locking_code redeem)
locking-spelled redeem =
    ap (λ pushed. 0xa9 ∷ (pushed ++ 0x87 ∷ [])) (sym (push-twenty (digest redeem) (length-digest (sha256 redeem))))

pub locking_fit : Laws → (redeem : List ℕ) → AllByRecursion IsFit (locking_code redeem)
locking_fit laws redeem =
    let size = length-digest (sha256 redeem) in
    (do_fit laws 0xa9 refl, (push_fit laws (digest redeem) (omega (arith, size)), (do_fit laws 0x87 refl, tt)))

pub length-locking : (redeem : List ℕ) → length (locking_script redeem) ≡ 23
length-locking redeem = omega (arith, length-append (digest redeem) (0x87 ∷ []), length-digest (sha256 redeem))

last_byte : (d : List ℕ) → length d ≡ 20 → get_or (d ++ 0x87 ∷ []) 20 0 ≡ 0x87
last_byte d is = ap (λ n. get_or (d ++ 0x87 ∷ []) n 0) (sym is) ∙ get_or-append_seam d 0x87 [] 0

pub locking-p2sh : (redeem : List ℕ) → is_p2sh (locking_script redeem) ≡ true
locking-p2sh redeem =
    let d = digest redeem in
    ap (λ n. eqb n 23 && eqb (get_or (d ++ 0x87 ∷ []) 20 0) 0x87) (length-locking redeem)
    ∙ ap (λ b. eqb b 0x87) (last_byte d (length-digest (sha256 redeem)))

-- its end
abbrev pub locking_end : List ℕ → Progress
locking_end redeem = record { at = 3; last = 2; place = 1 + length (spelling (push (digest redeem))) + 1 }

-- on the redeem script it leaves a true element
pub locking_run : (setting : Setting) (redeem : List ℕ) (elements : Stack)
    → run setting (locking_code redeem) (state (redeem ∷ elements) beginning)
    ≡ Ok (state ((1 ∷ []) ∷ elements) (locking_end redeem))
unfolding rows
locking_run setting redeem elements =
    ap (λ same. Ok (state (truth_bytes same ∷ elements) (locking_end redeem)))
    ((bytes_eq-Decides (digest redeem) (digest redeem)).1 refl)
