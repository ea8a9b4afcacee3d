-- The standard's digest of a message whose first block has sixteen different words, so that a wrong entry, constant or
-- step in the definition does not check.
use Rattle.std.proofs.Common.{◌≡◌, [], ◌∷◌, codes, refl}
use Rattle.ripemd160.specs.Ripemd160.{words_of, left_table, right_table, compressed, line, ripemd160}

pub digest_of_letters_and_digits : ripemd160 (codes "ABCDEFGHIJKLMNOPQRSTUVWXYZabcdefghijklmnopqrstuvwxyz0123456789")
    ≡ 176 ∷ 226 ∷ 11 ∷ 110 ∷ 49 ∷ 22 ∷ 100 ∷ 2 ∷ 134 ∷ 237 ∷ 58 ∷ 135 ∷ 165 ∷ 113 ∷ 48 ∷ 121 ∷ 178 ∷ 31 ∷ 81 ∷ 137 ∷ []
unfolding words_of left_table right_table line compressed ripemd160
digest_of_letters_and_digits = refl
