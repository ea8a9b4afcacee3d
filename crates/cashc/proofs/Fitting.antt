-- The redeem script of a compiled source, beside the room of its contract.
use Rattle.std.proofs.Common.{◌≡◌, ℕ, ◌+◌, ◌≤◌, List, length, map, Bool, true, cond, Ok, Err, ap, arith}
use Rattle.std.specs.Prelude.{nat_le, reverse}
use Rattle.std.proofs.lemmas.Bool.{le-leb}
use Rattle.cash_base.specs.declared.place.Slot.{Slot}
use Rattle.cash_tree.specs.declared.Ty.{Ty}
use Rattle.cash_tree.specs.declared.Contract.{Contract}
use Rattle.script_codec.specs.Reading.{push}
use Rattle.script_codec.specs.Spelling.{spellings}
use Rattle.selector.proofs.Runs.{spellings_append}
use Rattle.slot_lowering.specs.Room.{room}
use Rattle.artifact_json.specs.Artifact.{Artifact}
use Rattle.unlocker.specs.declared.BuildFault.{BuildFault}
use Rattle.unlocker.specs.declared.BuildFault.TheVariants.{RedeemTooLong}
use Rattle.unlocker.specs.Scripts.{redeem_script}
use Rattle.unlocker.specs.Building.{capped, size_check}
use Rattle.cash_compile.specs.Compile.{IsCompiled}

pub script_fits : (source : List ℕ) (contract : Contract Slot Ty) (program : Artifact) (ctor : List (List ℕ)) → IsCompiled source contract program
    → length (spellings (map push (reverse ctor))) + room contract ≤ 520
    → size_check (redeem_script program.code ctor) ≡ Ok (redeem_script program.code ctor)
script_fits source contract program ctor h small =
    let pushes = map push (reverse ctor) in
    let script = redeem_script program.code ctor in
    let parts : length script ≡ length (spellings pushes) + length (spellings program.code) =
    spellings_append pushes program.code in
    let most = h.fits.bytes in
    let short : length script ≤ 520 = omega (arith, parts, most, small) in
    ap (λ (t : Bool). cond t (Ok script) (Err (RedeemTooLong (capped (length script))))) (le-leb (length script) 520 short)
