-- Children of nodes, found by their number.
use Rattle.std.proofs.Common.{◌≡◌, ℕ, zero, suc, ◌+◌, List, [], ◌∷◌, ◌++◌, length, map, take, drop, Some, slice_get, refl, sym, ap, ◌∙◌, subst, arith, suc-add, append_assoc}
use Rattle.std.proofs.lemmas.List.{take-append-drop}
use Rattle.rule_arena.specs.declared.key.Key.{Key}
use Rattle.rule_arena.specs.Preorder.{AreTerms, span, roots}
use Rattle.rule_arena.specs.Terms.{Node, key_in, key_of, kids_in, kids_of}
use Rattle.rule_arena.specs.Children.{Child, ChildAt}
use Rattle.rule_arena.proofs.PathLemmas.{key_in-right}
use Rattle.rule_arena.proofs.PreorderLemmas.{AreTerms-append, AreTerms-split}

pub child : (k m c : ℕ) (ns : List Node) (low : Key) → AreTerms kids_of (k + m) ns → slice_get (map key_of (roots kids_of k ns)) c ≡ Some low → Child ns k c low
child zero m c ns low t e = absurd (cc)
child (suc k) m c [] low t e = absurd (cc)
child (suc k) m zero (x ∷ ns) low t e =
    let u : AreTerms kids_of (suc (k + m)) (x ∷ ns) = rw (suc-add k m) at t in
    let s = AreTerms-split kids_of x.kids (k + m) ns u in
    let us : List Node = drop (span kids_of x.kids ns) ns in
    let w = AreTerms-split kids_of k m us s.1 in
    record {
      before = [];
      node = x;
      below = take (span kids_of x.kids ns) ns;
      after = take (span kids_of k us) us;
      back = drop (span kids_of k us) us;
      more = k;
      split = ap (λ (zs : List Node). x ∷ zs) (sym (take-append-drop (span kids_of x.kids ns) ns) ∙ ap (λ (zs : List Node). take (span kids_of x.kids ns) ns ++ zs) (sym (take-append-drop (span kids_of k us) us)));
      named = cc;
      many = omega arith;
      before_terms = tt;
      below_terms = s.0;
      after_terms = w.0;
    }
child (suc k) m (suc c) (x ∷ ns) low t e =
    let u : AreTerms kids_of (suc (k + m)) (x ∷ ns) = rw (suc-add k m) at t in
    let s = AreTerms-split kids_of x.kids (k + m) ns u in
    let ts : List Node = take (span kids_of x.kids ns) ns in
    let C = child k m c (drop (span kids_of x.kids ns) ns) low s.1 e in
    let z : x.kids ≡ x.kids + 0 = omega arith in
    let one : AreTerms kids_of 1 (x ∷ ts) = subst (λ (n : ℕ). AreTerms kids_of n ts) z s.0 in
    let w : 1 + c ≡ suc c = omega arith in
    record {
      before = (x ∷ ts) ++ C.before;
      node = C.node;
      below = C.below;
      after = C.after;
      back = C.back;
      more = C.more;
      split = ap (λ (zs : List Node). x ∷ zs) (sym (take-append-drop (span kids_of x.kids ns) ns) ∙ ap (λ (zs : List Node). ts ++ zs) C.split) ∙ sym (append_assoc (x ∷ ts) C.before ((C.node ∷ C.below) ++ (C.after ++ C.back)));
      named = C.named;
      many = omega (arith, C.many);
      before_terms = subst (λ (n : ℕ). AreTerms kids_of n ((x ∷ ts) ++ C.before)) w (AreTerms-append kids_of 1 c (x ∷ ts) C.before one C.before_terms);
      below_terms = C.below_terms;
      after_terms = C.after_terms;
    }

pub child_at : (n : ℕ) (ns : List Node) (q : ℕ) (N : Node) (c : ℕ) (low : Key) → AreTerms kids_of n ns → slice_get ns q ≡ Some N → slice_get (kids_in ns q) c ≡ Some low → ChildAt ns q N c low
child_at n [] q N c low t e h = absurd (cc)
child_at zero (x ∷ ns) q N c low t e h = absurd t
child_at (suc n) (x ∷ ns) zero N c low t e h =
    let i : x ≡ N = cc in
    record { front = []; rest = ns; split = ap (λ (y : Node). y ∷ ns) i; at = refl; child = subst (λ (y : Node). Child ns y.kids c low) i (child x.kids n c ns low t h) }
child_at (suc n) (x ∷ ns) (suc q) N c low t e h =
    let C = child_at (x.kids + n) ns q N c low t e h in
    record { front = x ∷ C.front; rest = C.rest; split = ap (λ (zs : List Node). x ∷ zs) C.split; at = ap suc C.at; child = C.child }

-- where the child stands, as long as its key stands once
pub child_place : (ns : List Node) (q : ℕ) (N : Node) (c : ℕ) (low : Key) (C : ChildAt ns q N c low) (p : ℕ) → key_in ns p ≡ Some low → ((i j : ℕ) → key_in ns i ≡ Some low → key_in ns j ≡ Some low → i ≡ j) → p ≡ suc (q + length C.child.before)
child_place ns q N c low C p e once =
    let D = C.child in
    let z : length D.before + 0 ≡ length D.before = omega arith in
    let f : key_in C.rest (length D.before) ≡ Some low = subst (λ (zs : List Node). key_in zs (length D.before) ≡ Some low) (sym D.split) (rw z at (key_in-right D.before ((D.node ∷ D.below) ++ (D.after ++ D.back)) 0 low (ap Some D.named))) in
    let g : key_in ns (length C.front + suc (length D.before)) ≡ Some low = subst (λ (zs : List Node). key_in zs (length C.front + suc (length D.before)) ≡ Some low) (sym C.split) (key_in-right C.front (N ∷ C.rest) (suc (length D.before)) low f) in
    omega (arith, once p (length C.front + suc (length D.before)) e g, C.at)

-- a node has as many children as it says
pub length-roots : (k m : ℕ) (ns : List Node) → AreTerms kids_of (k + m) ns → length (map key_of (roots kids_of k ns)) ≡ k
length-roots zero m ns t = refl
length-roots (suc k) m [] t = absurd (rw (suc-add k m) at t)
length-roots (suc k) m (x ∷ ns) t =
    let u : AreTerms kids_of (suc (k + m)) (x ∷ ns) = rw (suc-add k m) at t in
    let s = AreTerms-split kids_of x.kids (k + m) ns u in
    ap suc (length-roots k m (drop (span kids_of x.kids ns) ns) s.1)

pub length-kids : (n : ℕ) (ns : List Node) (p : ℕ) (N : Node) → AreTerms kids_of n ns → slice_get ns p ≡ Some N → length (kids_in ns p) ≡ N.kids
length-kids n [] p N t e = absurd (cc)
length-kids zero (x ∷ ns) p N t e = absurd t
length-kids (suc n) (x ∷ ns) zero N t e = let i : x ≡ N = cc in length-roots x.kids n ns t ∙ ap (λ (y : Node). y.kids) i
length-kids (suc n) (x ∷ ns) (suc p) N t e = length-kids (x.kids + n) ns p N t e
