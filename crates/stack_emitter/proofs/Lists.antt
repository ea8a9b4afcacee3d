-- Lists from their end.
use Rattle.std.proofs.Common.{◌≡◌, ℕ, ◌-◌, ◌≤◌, List, ◌++◌, length, map, reverse, take, drop, sym, ap, ◌∙◌, arith}
use Rattle.std.proofs.lemmas.List.{reverse-append, take-append-drop, take-map, length-reverse, length-drop, length-map}
use Rattle.std.proofs.Math.Seq.{drop-append_seam}

-- without the last of a list its reverse is without its first
pub fewer : {A B : Type 0} (f : A → B) (xs : List A) (n left : ℕ) → n ≤ length (reverse (map f xs)) → left ≡ length xs - n
    → reverse (map f (take left xs)) ≡ drop n (reverse (map f xs))
fewer {A} {B} f xs n left few e =
    let ys : List B = map f xs in
    let size : length ys ≡ length xs = length-map xs f in
    let all : length (reverse ys) ≡ length ys = length-reverse ys in
    let rest : length (reverse (drop left ys)) ≡ n =
    let a = length-reverse (drop left ys) in let b = length-drop left ys in omega (arith, a, b, size, all, few, e) in
    ap reverse (sym (take-map f left xs))
    ∙ sym (drop-append_seam (reverse (drop left ys)) (reverse (take left ys)))
    ∙ ap (λ m. drop m (reverse (drop left ys) ++ reverse (take left ys))) rest
    ∙ ap (drop n) (sym (reverse-append (take left ys) (drop left ys)) ∙ ap reverse (take-append-drop left ys))
