-- What the map of a scope holds, as the names in scope.
use Rattle.std.proofs.Common.{◌≡◌, ◌∙◌, sym, ap, refl, ℕ, Bool, cond, List, [], ◌∷◌, ◌++◌, map, take}
use Rattle.std.specs.Prelude.{Option, None, Some, true, false}
use Rattle.std.specs.Option.{option_or}
use Rattle.std.specs.Borrow.{Bor}
use Rattle.std.specs.Str.{bytes_eq}
use Rattle.std.specs.Map.{lookup}
use Rattle.std.specs.HashMap.{HashMap}
use Rattle.std.proofs.lemmas.List.{take-map}
use Rattle.indexmap.specs.IndexMap.{insert_entry}
use Rattle.indexmap.proofs.CallerLemmas.{insert_entry-new}
use Rattle.name_scopes.specs.declared.scope.Variable.{Variable}
use Rattle.name_scopes.specs.Names.{find, seen}

-- the entries as the map has them
abbrev Held : Type 0
Held = List (Bor (List ℕ) × Variable)

abbrev same : Bor (List ℕ) → Bor (List ℕ) → Bool
same x y = bytes_eq x.now y.now

pub find_seen : (name : Bor (List ℕ)) (es : Held) → find name.now (map seen es) ≡ lookup (same name) es
find_seen name [] = refl
find_seen name (e ∷ es) = ap (λ r. cond (bytes_eq name.now e.0.now) (Some e.1) r) (find_seen name es)

seen_append : (es fs : Held) → map seen (es ++ fs) ≡ map seen es ++ map seen fs
seen_append [] fs = refl
seen_append (e ∷ es) fs = ap (λ l. seen e ∷ l) (seen_append es fs)

pub seen_insert : {S : Type 0} (m : HashMap (Bor (List ℕ)) Variable S) (name : Bor (List ℕ)) (v : Variable)
    → find name.now (map seen m.entries) ≡ None
    → map seen (insert_entry same m.entries name v) ≡ map seen m.entries ++ (name.now, v) ∷ []
seen_insert m name v none =
    ap (map seen) (insert_entry-new same m name v (sym (find_seen name m.entries) ∙ none)) ∙ seen_append m.entries ((name, v) ∷ [])

pub seen_take : (n : ℕ) (es : Held) → map seen (take n es) ≡ take n (map seen es)
seen_take n es = sym (take-map seen n es)

-- a name after the last
pub find_last : (name : List ℕ) (es : List (List ℕ × Variable)) (last : List ℕ) (v : Variable)
    → find name (es ++ (last, v) ∷ []) ≡ option_or (find name es) (cond (bytes_eq name last) (Some v) None)
find_last name [] last v = refl
find_last name (e ∷ es) last v =
    ap (λ r. cond (bytes_eq name e.0) (Some e.1) r) (find_last name es last v)
    ∙ first_or (bytes_eq name e.0) e.1 (find name es) (cond (bytes_eq name last) (Some v) None)
  where
    first_or : (b : Bool) (x : Variable) (o rest : Option Variable) → cond b (Some x) (option_or o rest) ≡ option_or (cond b (Some x) o) rest
    first_or true x o rest = refl
    first_or false x o rest = refl
