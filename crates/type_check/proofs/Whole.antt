-- What is read of a whole contract is its contract with types, or the first node that has none.
use Rattle.std.proofs.Common.{◌≡◌, ◌∙◌, ap, sym, subst, refl, List, [], ◌∷◌, ◌++◌, map, append_assoc, inl, inr, cond}
use Rattle.std.specs.Prelude.{Some, None, Result, Ok, Err, IfOk, IfErr, Bool, true, false}
use Rattle.std.proofs.lemmas.List.{append-nil}
use Rattle.cash_base.specs.Failing.{◌>>=◌}
use Rattle.type_tables.specs.declared.fault.TypeFault.{TypeFault}
use Rattle.type_tables.specs.declared.fault.TypeFault.TheVariants.{NoFinalRequire}
use Rattle.type_tables.specs.Tables.{Answer, Env}
use Rattle.type_tables.specs.Places.{Node, first_fault, fault_of, granted, Gives}
use Rattle.type_check.specs.Ends.{ends_rightly, final}
use Rattle.type_check.specs.Shapes.{with_params}
use Rattle.type_check.specs.Outline.{NamedFunction, TypedFunction, NamedContract, TypedContract, run, outline_of_stmt, function_of, function_outline, functions_outline, contract_of, contract_outline}
use Rattle.type_check.specs.Reading.{run_from, reading_of_stmt, function_reading, functions_from, contract_reading}
use Rattle.type_check.specs.Typing.{TypesRun, TypesFunction, TypesFunctions, TypesContract, function, no_more, one_more, contract}
use Rattle.type_check.specs.Untyped.{untyped_contract}
use Rattle.type_check.specs.Answer.{IsTyped, IsFaultOf, JudgedOnce, first_type_fault}
use Rattle.type_check.proofs.Kept.{contract_kept}
use Rattle.type_check.proofs.Outlined.{verdict, both, last, allowed}
use Rattle.type_check.proofs.Typed.{ok_bind, ok_inner, ok_same}
use Rattle.type_check.proofs.StmtOutlined.{all_agree}
use Rattle.type_check.proofs.StmtTyped.{run_complete, all_sound}

-- ---- the first node

function_agrees : (env : Env) (f : NamedFunction) → function_reading env f ≡ verdict (function_outline env f)
function_agrees env f =
    let o = run (map outline_of_stmt f.body) (with_params f.params env) in
    both (run_from [] (map reading_of_stmt f.body) (with_params f.params env)) o
    (λ body. final f >>= (λ u. Ok (function_of f body.0))) (fault_of (final f) ∷ []) (function_of f o.value.0)
    (all_agree f.body [] (with_params f.params env)) (allowed (final f) (function_of f o.value.0))

functions_agree : (env : Env) (fs : List NamedFunction) (done : List TypedFunction)
    → functions_from env done fs ≡ granted (first_fault (functions_outline env fs).nodes)
    (done ++ (functions_outline env fs).value)
functions_agree env [] done = ap Ok (sym (append-nil done))
functions_agree env (f ∷ fs) done =
    let head = function_outline env f in
    let tail = functions_outline env fs in
    both (function_reading env f) head (λ x. functions_from env (done ++ x ∷ []) fs) tail.nodes
    (done ++ head.value ∷ tail.value) (function_agrees env f)
    (functions_agree env fs (done ++ head.value ∷ [])
    ∙ ap (λ l. granted (first_fault tail.nodes) l) (append_assoc done (head.value ∷ []) tail.value))

contract_agrees : (tree : NamedContract) → contract_reading tree ≡ verdict (contract_outline tree)
contract_agrees tree =
    let env = with_params tree.params [] in
    last (functions_from env [] tree.functions) (functions_outline env tree.functions) (contract_of tree)
    (functions_agree env tree.functions [])

-- ---- what has a type is read

abbrev allow : Bool → TypeFault → Answer (Unit {0})
allow b fault = cond b (Ok tt) (Err fault)

ended : {B : Type 0} (b : Bool) (fault : TypeFault) (w : B) → b ≡ true → (allow b fault >>= (λ u. Ok w)) ≡ Ok w
ended b fault w e = ap (λ b. allow b fault >>= (λ u. Ok w)) e

function_complete : (env : Env) (f : NamedFunction) (g : TypedFunction) → TypesFunction env f g
    → function_reading env f ≡ Ok g
function_complete env _ _ (function f body after h ends) =
    ap (λ r. r >>= (λ body. final f >>= (λ u. Ok (function_of f body.0))))
    (run_complete (with_params f.params env) f.body body after h [])
    ∙ ended (ends_rightly f.body) (NoFinalRequire f.span) (function_of f body) ends

functions_complete : (env : Env) (fs : List NamedFunction) (gs : List TypedFunction) → TypesFunctions env fs gs
    → (done : List TypedFunction) → functions_from env done fs ≡ Ok (done ++ gs)
functions_complete env _ _ no_more done = ap Ok (sym (append-nil done))
functions_complete env _ _ (one_more f fs g gs h hs) done =
    ap (λ r. r >>= (λ x. functions_from env (done ++ x ∷ []) fs)) (function_complete env f g h)
    ∙ functions_complete env fs gs hs (done ++ g ∷ []) ∙ ap Ok (append_assoc done (g ∷ []) gs)

contract_complete : (tree : NamedContract) (typed : TypedContract) → TypesContract tree typed → contract_reading tree
    ≡ Ok typed
contract_complete _ _ (contract c functions h) =
    ap (λ r. r >>= (λ all. Ok (contract_of c all)))
    (functions_complete (with_params c.params []) c.functions functions h [])

-- ---- what is read has a type

ending : {B : Type 0} (b : Bool) (fault : TypeFault) (w z : B) → (allow b fault >>= (λ u. Ok w)) ≡ Ok z → (b ≡ true)
    × (w ≡ z)
ending true fault w z e = (refl, ok_same w z e)
ending false fault w z e = let no : ⊥ = cc in absurd no

function_sound : (env : Env) (f : NamedFunction) (g : TypedFunction) → function_reading env f ≡ Ok g
    → TypesFunction env f g
function_sound env f g e =
    let inner = with_params f.params env in
    let p = ok_bind (run_from [] (map reading_of_stmt f.body) inner)
    (λ body. final f >>= (λ u. Ok (function_of f body.0))) g e in
    let q = ending (ends_rightly f.body) (NoFinalRequire f.span) (function_of f p.0.0) g p.2 in
    let r = all_sound f.body [] inner p.0 p.1 in
    subst (λ g. TypesFunction env f g) {x = function_of f p.0.0} q.1
    (function f p.0.0 p.0.1 (subst (λ ts. TypesRun inner f.body ts p.0.1) (sym r.1) r.2) q.0)

functions_sound : (env : Env) (fs : List NamedFunction) (done zs : List TypedFunction) → functions_from env done fs
    ≡ Ok zs
    → (gs : List TypedFunction) × (zs ≡ done ++ gs) × TypesFunctions env fs gs
functions_sound env [] done zs e = ([], ok_inner zs done (Ok done) e refl ∙ sym (append-nil done), no_more)
functions_sound env (f ∷ fs) done zs e =
    let b = ok_bind (function_reading env f) (λ x. functions_from env (done ++ x ∷ []) fs) zs e in
    let r = functions_sound env fs (done ++ b.0 ∷ []) zs b.2 in
    (b.0 ∷ r.0, r.1 ∙ append_assoc done (b.0 ∷ []) r.0, one_more f fs b.0 r.0 (function_sound env f b.0 b.1) r.2)

contract_sound : (tree : NamedContract) (typed : TypedContract) → contract_reading tree ≡ Ok typed
    → TypesContract tree typed
contract_sound tree typed e =
    let env = with_params tree.params [] in
    let p = ok_bind (functions_from env [] tree.functions) (λ all. Ok (contract_of tree all)) typed e in
    let r = functions_sound env tree.functions [] p.0 p.1 in
    subst (λ c. TypesContract tree c) {x = contract_of tree p.0} (ok_same (contract_of tree p.0) typed p.2)
    (contract tree p.0 (subst (λ gs. TypesFunctions env tree.functions gs) (sym r.1) r.2))

-- ---- both

refused : {A : Type 0} (p : Node) (v : A) (fault : TypeFault) → granted p v ≡ Err fault → p ≡ Some fault
refused None v fault e = cc
refused (Some f) v fault e = cc

unrefused : {A : Type 0} (p : Node) (v x : A) → granted p v ≡ Ok x → p ≡ None
unrefused None v x e = refl
unrefused (Some f) v x e = let no : ⊥ = cc in absurd no

not_both : {A : Type 0} (x : A) (fault : TypeFault) (r : Answer A) → r ≡ Ok x → r ≡ Err fault → ⊥
not_both x fault r d e = cc

pub typed_from : (tree : NamedContract) (r : Result TypedContract TypeFault)
    → Gives (λ x. x) r (contract_reading tree) → IfOk r (IsTyped tree)
typed_from tree (Err f) g = tt
typed_from tree (Ok x) g = (
  contract_sound tree x g,
  unrefused (first_type_fault tree) (contract_outline tree).value x
      (sym (contract_agrees tree) ∙ g),
)

pub kept_from : (tree : NamedContract) (r : Result TypedContract TypeFault)
    → Gives (λ x. x) r (contract_reading tree) → IfOk r (λ typed. untyped_contract typed ≡ tree)
kept_from tree (Err f) g = tt
kept_from tree (Ok x) g = contract_kept tree x (contract_sound tree x g)

pub fault_from : (tree : NamedContract) (r : Result TypedContract TypeFault)
    → Gives (λ x. x) r (contract_reading tree) → IfErr r (IsFaultOf tree)
fault_from tree (Ok x) g = tt
fault_from tree (Err f) (inl m) = inl m
fault_from tree (Err f) (inr g) =
    inr (
      refused (first_type_fault tree) (contract_outline tree).value f (sym (contract_agrees tree) ∙ g),
      λ typed h.
          not_both typed f (contract_reading tree) (contract_complete tree typed h) g,
    )

pub judged : (tree : NamedContract) → JudgedOnce tree
judged tree =
    let o = contract_outline tree in
    record {
      one = λ a b m n. ok_inner a b (contract_reading tree) (contract_complete tree a m) (contract_complete tree b n);
      kept = contract_kept tree;
      accepted = λ e. (o.value, contract_sound tree o.value (contract_agrees tree ∙ ap (λ p. granted p o.value) e));
      refused = λ fault e typed h. not_both typed fault (contract_reading tree) (contract_complete tree typed h)
          (contract_agrees tree ∙ ap (λ p. granted p o.value) e);
    }
