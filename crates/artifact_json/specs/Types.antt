-- The types of parameters, and how they are spelled: those that a source can name.
use Rattle.std.specs.Prelude.{ℕ, Bool, true, false, ◌&&◌, nat_le, List, [], ◌++◌, codes, decimal}
use Rattle.cash_tree.specs.declared.Ty.{Ty}
use Rattle.cash_tree.specs.declared.Ty.TheOpen.{Ty-F}
use Rattle.cash_tree.specs.declared.Ty.TheViews.{out-Ty}

abbrev pub is_named_layer : Ty-F Ty → Bool
is_named_layer (Ty-F.BytesN n) = nat_le 1 n && nat_le n 520
is_named_layer (Ty-F.Array item) = false
is_named_layer (Ty-F.Pair left right) = false
is_named_layer _ = true

-- a source can name it: it is no array and no pair, and a `bytesN` has from 1 to 520 bytes
abbrev pub is_named_type : Ty → Bool
is_named_type t = is_named_layer (out-Ty t)

abbrev pub layer_spelling : Ty-F Ty → List ℕ
layer_spelling Ty-F.Int = codes "int"
layer_spelling Ty-F.Bool = codes "bool"
layer_spelling Ty-F.Text = codes "string"
layer_spelling Ty-F.Bytes = codes "bytes"
layer_spelling (Ty-F.BytesN n) = codes "bytes" ++ decimal n
layer_spelling Ty-F.Pubkey = codes "pubkey"
layer_spelling Ty-F.Sig = codes "sig"
layer_spelling Ty-F.Datasig = codes "datasig"
layer_spelling (Ty-F.Array item) = []
layer_spelling (Ty-F.Pair left right) = []

-- as a source names it; `byte` is `bytes1`
abbrev pub spelling : Ty → List ℕ
spelling t = layer_spelling (out-Ty t)
