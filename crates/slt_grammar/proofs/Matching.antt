-- How a term is matched with a body, node by node.
use Rattle.std.proofs.Common.{◌≡◌, ◌⊎◌, inl, inr, ℕ, zero, suc, ◌+◌, List, [], ◌∷◌, ◌++◌, length, get_or, take, drop, map, Some, slice_get, refl, sym, ap, ◌∙◌, subst, arith, append_assoc, length-append}
use Rattle.std.proofs.Math.Seq.{take-append_seam, drop-append_seam}
use Rattle.std.proofs.lemmas.List.{append-nil}
use Rattle.rule_arena.specs.Preorder.{AreTerms, span, terms, roots}
use Rattle.rule_arena.specs.Terms.{Node, key_in, key_of, kids_of}
use Rattle.rule_arena.specs.declared.key.Key.{Key}
use Rattle.rule_arena.specs.declared.label.Label.{Label}
use Rattle.rule_arena.proofs.PreorderLemmas.{span-append}
use Rattle.slt_grammar.specs.Calling.{IsBodyOver}
use Rattle.slt_grammar.specs.Copying.{hole, holes_in, copied}
use Rattle.slt_grammar.specs.Detaching.{AreArgs}
use Rattle.slt_grammar.proofs.CopiesPlaced.{hole-cases, node-real, node-hole}
use Rattle.slt_grammar.proofs.FoldedRules.{flat, flat-append, flat-terms}
use Rattle.slt_grammar.proofs.Inlinings.{are-args, length-args}

-- the first nodes of a body, over terms of the roots that were found, are the first of these nodes, and terms of other roots are left
pub record IsMatched (body xs : List Node) (j size : ℕ) (found left : List Key) : Type 0 where
  pub args : List (List Node)
  pub keys : List Key
  pub more : List (List Node)
  pub roots : AreArgs found args
  pub enough : length args ≡ holes_in (take j body)
  pub many : length keys ≡ length (take j body)
  pub sized : length (copied (take j body) args keys) ≡ size
  pub others : AreArgs left more
  pub is : xs ≡ copied (take j body) args keys ++ flat more

-- a copy of a node and more, by whether it is a parameter
copied-real : (a : Node) (front : List Node) (gs : List (List Node)) (ks : List Key) → hole a.label ≡ 0 → copied (a ∷ front) gs ks ≡ record a { key = get_or ks 0 a.key } ∷ copied front gs (drop 1 ks)
copied-real a front gs ks z =
    node-real a.label a (get_or ks 0 a.key) gs (copied front (drop (hole a.label) gs) (drop 1 ks)) z
    ∙ ap (λ (d : ℕ). record a { key = get_or ks 0 a.key } ∷ copied front (drop d gs) (drop 1 ks)) z

copied-hole : (a : Node) (front : List Node) (g : List Node) (gs : List (List Node)) (ks : List Key) → hole a.label ≡ 1 → copied (a ∷ front) (g ∷ gs) ks ≡ g ++ copied front gs (drop 1 ks)
copied-hole a front g gs ks z =
    node-hole a.label a (get_or ks 0 a.key) (g ∷ gs) (copied front (drop (hole a.label) (g ∷ gs)) (drop 1 ks)) z
    ∙ ap (λ (d : ℕ). g ++ copied front (drop d (g ∷ gs)) (drop 1 ks)) z

pub copied-append : (front bs : List Node) (gs hs : List (List Node)) (ks ls : List Key) → length gs ≡ holes_in front → length ks ≡ length front
    → copied (front ++ bs) (gs ++ hs) (ks ++ ls) ≡ copied front gs ks ++ copied bs hs ls
copied-append [] bs [] hs [] ls e f = refl
copied-append [] bs (g ∷ gs) hs ks ls e f = absurd (omega arith)
copied-append [] bs [] hs (k ∷ ks) ls e f = absurd (omega arith)
copied-append (a ∷ front) bs gs hs [] ls e f = absurd (omega arith)
copied-append (a ∷ front) bs gs hs (k ∷ ks) ls e f = by (hole-cases a.label) gs e (λ g d. copied-append front bs g hs ks ls d (omega arith))
  where
    by : (hole a.label ≡ 0) ⊎ (hole a.label ≡ 1) → (gs : List (List Node)) → length gs ≡ hole a.label + holes_in front
        → ((g : List (List Node)) → length g ≡ holes_in front → copied (front ++ bs) (g ++ hs) (ks ++ ls) ≡ copied front g ks ++ copied bs hs ls)
        → copied (a ∷ (front ++ bs)) (gs ++ hs) (k ∷ (ks ++ ls)) ≡ copied (a ∷ front) gs (k ∷ ks) ++ copied bs hs ls
    by (inl z) gs e ih =
        copied-real a (front ++ bs) (gs ++ hs) (k ∷ (ks ++ ls)) z ∙ ap (λ (xs : List Node). record a { key = k } ∷ xs) (ih gs (omega (arith, e, z)))
        ∙ sym (ap (λ (xs : List Node). xs ++ copied bs hs ls) (copied-real a front gs (k ∷ ks) z))
    by (inr z) [] e ih = absurd (omega (arith, e, z))
    by (inr z) (g ∷ gs) e ih =
        copied-hole a (front ++ bs) g (gs ++ hs) (k ∷ (ks ++ ls)) z ∙ ap (λ (xs : List Node). g ++ xs) (ih gs (omega (arith, e, z)))
        ∙ sym (append_assoc g (copied front gs ks) (copied bs hs ls))
        ∙ sym (ap (λ (xs : List Node). xs ++ copied bs hs ls) (copied-hole a front g gs (k ∷ ks) z))

-- where two lists begin with one term each, the terms are one
pub one-term : (xs ys us vs : List Node) → AreTerms kids_of 1 xs → AreTerms kids_of 1 ys → xs ++ us ≡ ys ++ vs → (xs ≡ ys) × (us ≡ vs)
one-term xs ys us vs s t e =
    let l : length xs ≡ length ys = sym (span-append kids_of 1 xs us s) ∙ ap (λ (zs : List Node). span kids_of 1 zs) e ∙ span-append kids_of 1 ys vs t in (
      sym (take-append_seam xs us) ∙ ap (λ (n : ℕ). take n (xs ++ us)) l ∙ ap (λ (zs : List Node). take (length ys) zs) e ∙ take-append_seam ys vs,
      sym (drop-append_seam xs us) ∙ ap (λ (n : ℕ). drop n (xs ++ us)) l ∙ ap (λ (zs : List Node). drop (length ys) zs) e ∙ drop-append_seam ys vs,
    )

same-root : (xs ys : List Node) (k m : Key) → xs ≡ ys → key_in xs 0 ≡ Some k → key_in ys 0 ≡ Some m → k ≡ m
same-root xs ys k m e f g = let h : key_in xs 0 ≡ Some m = ap (λ (zs : List Node). key_in zs 0) e ∙ g in cc

-- what a body over terms begins with: the same terms, and the rest is the rest of the body
pub begins-alike : (front bs : List Node) (fs ks' : List Key) (gs hs : List (List Node)) (ks ls : List Key) (rest : List Node) → AreArgs fs gs → AreArgs ks' hs → length gs ≡ holes_in front → length hs ≡ holes_in (front ++ bs)
    → copied (front ++ bs) hs ls ≡ copied front gs ks ++ rest
    → (copied bs (drop (holes_in front) hs) (drop (length front) ls) ≡ rest) × (take (holes_in front) ks' ≡ fs)
begins-alike [] bs [] ks' [] hs ks ls rest A B e f q = (q, refl)
begins-alike [] bs (k ∷ fs) ks' [] hs ks ls rest A B e f q = absurd A
begins-alike [] bs fs ks' (g ∷ gs) hs ks ls rest A B e f q = absurd (omega arith)
begins-alike (a ∷ front) bs fs ks' gs hs ks ls rest A B e f q =
    by (hole-cases a.label) fs ks' gs hs A B e f q (λ fs ks' gs hs A B e f q. begins-alike front bs fs ks' gs hs (drop 1 ks) (drop 1 ls) rest A B e f q)
  where
    drop-one : (n : ℕ) (xs : List Key) → drop n (drop 1 xs) ≡ drop (suc n) xs
    drop-one zero [] = refl
    drop-one (suc n) [] = refl
    drop-one n (x ∷ xs) = refl

    by : (hole a.label ≡ 0) ⊎ (hole a.label ≡ 1) → (fs ks' : List Key) (gs hs : List (List Node)) → AreArgs fs gs → AreArgs ks' hs → length gs ≡ hole a.label + holes_in front → length hs ≡ hole a.label + holes_in (front ++ bs)
        → copied (a ∷ (front ++ bs)) hs ls ≡ copied (a ∷ front) gs ks ++ rest
        → ((fs ks' : List Key) (gs hs : List (List Node)) → AreArgs fs gs → AreArgs ks' hs → length gs ≡ holes_in front → length hs ≡ holes_in (front ++ bs)
        → copied (front ++ bs) hs (drop 1 ls) ≡ copied front gs (drop 1 ks) ++ rest
        → (copied bs (drop (holes_in front) hs) (drop (length front) (drop 1 ls)) ≡ rest) × (take (holes_in front) ks' ≡ fs))
        → (copied bs (drop (hole a.label + holes_in front) hs) (drop (suc (length front)) ls) ≡ rest) × (take (hole a.label + holes_in front) ks' ≡ fs)
    by (inl z) fs ks' gs hs A B e f q ih =
        let t : copied (front ++ bs) hs (drop 1 ls) ≡ copied front gs (drop 1 ks) ++ rest =
        ap (λ (xs : List Node). drop 1 xs) (sym (copied-real a (front ++ bs) hs ls z) ∙ q ∙ ap (λ (xs : List Node). xs ++ rest) (copied-real a front gs ks z)) in
        let h = ih fs ks' gs hs A B (omega (arith, e, z)) (omega (arith, f, z)) t in
        let s : hole a.label + holes_in front ≡ holes_in front = omega (arith, z) in (
          ap (λ (n : ℕ). copied bs (drop n hs) (drop (suc (length front)) ls)) s ∙ ap (λ (xs : List Key). copied bs (drop (holes_in front) hs) xs) (sym (drop-one (length front) ls)) ∙ h.0,
          ap (λ (n : ℕ). take n ks') s ∙ h.1,
        )
    by (inr z) fs ks' [] hs A B e f q ih = absurd (omega (arith, e, z))
    by (inr z) fs ks' (g ∷ gs) [] A B e f q ih = absurd (omega (arith, f, z))
    by (inr z) [] ks' (g ∷ gs) (h ∷ hs) A B e f q ih = absurd A
    by (inr z) (k ∷ fs) [] (g ∷ gs) (h ∷ hs) A B e f q ih = absurd B
    by (inr z) (k ∷ fs) (m ∷ ks') (g ∷ gs) (h ∷ hs) A B e f q ih =
        let t : h ++ copied (front ++ bs) hs (drop 1 ls) ≡ g ++ (copied front gs (drop 1 ks) ++ rest) =
        sym (copied-hole a (front ++ bs) h hs ls z) ∙ q ∙ ap (λ (xs : List Node). xs ++ rest) (copied-hole a front g gs ks z) ∙ append_assoc g (copied front gs (drop 1 ks)) rest in
        let o = one-term h g (copied (front ++ bs) hs (drop 1 ls)) (copied front gs (drop 1 ks) ++ rest) B.0 A.0 t in
        let i = ih fs ks' gs hs A.2 B.2 (omega (arith, e, z)) (omega (arith, f, z)) o.1 in
        let s : hole a.label + holes_in front ≡ suc (holes_in front) = omega (arith, z) in
        let w : m ≡ k = same-root h g m k o.0 B.1 A.1 in (
          ap (λ (n : ℕ). copied bs (drop n (h ∷ hs)) (drop (suc (length front)) ls)) s ∙ ap (λ (xs : List Key). copied bs (drop (holes_in front) hs) xs) (sym (drop-one (length front) ls)) ∙ i.0,
          ap (λ (n : ℕ). take n (m ∷ ks')) s ∙ ap (λ (x : Key). x ∷ take (holes_in front) ks') w ∙ ap (λ (xs : List Key). k ∷ xs) i.1,
        )

-- a body's nodes round one of them
pub split-at : (ms : List Node) (j : ℕ) (m : Node) → slice_get ms j ≡ Some m → (ms ≡ take j ms ++ (m ∷ drop (j + 1) ms)) × (take (j + 1) ms ≡ take j ms ++ m ∷ [])
split-at [] j m e = absurd (cc)
split-at (n ∷ ms) zero m e = let z : n ≡ m = cc in (ap (λ (x : Node). x ∷ ms) z, ap (λ (x : Node). x ∷ []) z)
split-at (n ∷ ms) (suc j) m e =
    let h = split-at ms j m e in
    let z : suc j + 1 ≡ suc (j + 1) = omega arith in
    rw z (ap (λ (xs : List Node). n ∷ xs) h.0, ap (λ (xs : List Node). n ∷ xs) h.1)

-- the arguments of a body in a term are determined
pub only-one : (ms xs : List Node) (fs ks : List Key) → IsBodyOver ms xs fs → IsBodyOver ms xs ks → ks ≡ fs
only-one ms xs fs ks M N =
    let q : copied (ms ++ []) N.args N.keys ≡ copied ms M.args M.keys ++ [] =
    ap (λ (zs : List Node). copied zs N.args N.keys) (append-nil ms) ∙ sym N.is ∙ M.is ∙ sym (append-nil (copied ms M.args M.keys)) in
    let h = begins-alike ms [] fs ks M.args N.args M.keys N.keys [] M.roots N.roots M.enough (N.enough ∙ ap holes_in (sym (append-nil ms))) q in
    sym (all (holes_in ms) ks (length-args ks N.args N.roots ∙ N.enough)) ∙ h.1
  where
    all : (n : ℕ) (xs : List Key) → length xs ≡ n → take n xs ≡ xs
    all zero [] e = refl
    all zero (x ∷ xs) e = absurd (omega arith)
    all (suc n) [] e = refl
    all (suc n) (x ∷ xs) e = ap (λ (ys : List Key). x ∷ ys) (all n xs (omega arith))

-- nothing is matched yet
pub starts : (ms xs : List Node) (k : Key) → AreTerms kids_of 1 xs → key_in xs 0 ≡ Some k → IsMatched ms xs 0 0 [] (k ∷ [])
starts ms xs k t e = record { args = []; keys = []; more = xs ∷ []; roots = tt; enough = refl; many = refl; sized = refl; others = (t, e, tt); is = sym (append-nil xs) }

-- all is matched
pub ends : (ms xs : List Node) (j size : ℕ) (found : List Key) → take j ms ≡ ms → IsMatched ms xs j size found [] → IsBodyOver ms xs found
ends ms xs j size found e M = record {
  args = M.args;
  keys = M.keys;
  roots = M.roots;
  enough = M.enough ∙ ap holes_in e;
  many = M.many ∙ ap length e;
  is = M.is ∙ ap (λ (gs : List (List Node)). copied (take j ms) M.args M.keys ++ flat gs) (none M.more M.others) ∙ append-nil (copied (take j ms) M.args M.keys) ∙ ap (λ (zs : List Node). copied zs M.args M.keys) e;
}
  where
    none : (gs : List (List Node)) → AreArgs [] gs → gs ≡ []
    none [] A = refl
    none (g ∷ gs) A = absurd A

args-append : (ks ls : List Key) (gs hs : List (List Node)) → AreArgs ks gs → AreArgs ls hs → AreArgs (ks ++ ls) (gs ++ hs)
args-append [] ls [] hs A B = B
args-append [] ls (g ∷ gs) hs A B = absurd A
args-append (k ∷ ks) ls [] hs A B = absurd A
args-append (k ∷ ks) ls (g ∷ gs) hs A B = (A.0, A.1, args-append ks ls gs hs A.2 B)

pub holes-append : (front bs : List Node) → holes_in (front ++ bs) ≡ holes_in front + holes_in bs
holes-append [] bs = omega arith
holes-append (a ∷ front) bs = omega (arith, holes-append front bs)

-- a parameter takes the next term
pub takes : (ms xs : List Node) (j size : ℕ) (found left : List Key) (k : Key) (m : Node) (g : List Node) (more : List (List Node)) → slice_get ms j ≡ Some m → hole m.label ≡ 1
    → (M : IsMatched ms xs j size found (k ∷ left)) → M.more ≡ g ∷ more → IsMatched ms xs (j + 1) (size + length g) (found ++ k ∷ []) left
takes ms xs j size found left k m g more e z M h =
    let A : AreArgs (k ∷ left) (g ∷ more) = subst (λ (gs : List (List Node)). AreArgs (k ∷ left) gs) h M.others in
    let s = split-at ms j m e in
    let c : copied (take (j + 1) ms) (M.args ++ g ∷ []) (M.keys ++ k ∷ []) ≡ copied (take j ms) M.args M.keys ++ g =
    ap (λ (zs : List Node). copied zs (M.args ++ g ∷ []) (M.keys ++ k ∷ [])) s.1 ∙ copied-append (take j ms) (m ∷ []) M.args (g ∷ []) M.keys (k ∷ []) M.enough M.many
    ∙ ap (λ (zs : List Node). copied (take j ms) M.args M.keys ++ zs) (copied-hole m [] g [] (k ∷ []) z ∙ append-nil g) in
    record {
      args = M.args ++ g ∷ [];
      keys = M.keys ++ k ∷ [];
      more = more;
      roots = args-append found (k ∷ []) M.args (g ∷ []) M.roots ((A.0, A.1, tt));
      enough = omega (arith, length-append M.args (g ∷ []), M.enough, ap holes_in s.1, holes-append (take j ms) (m ∷ []), z);
      many = omega (arith, length-append M.keys (k ∷ []), M.many, ap length s.1, length-append (take j ms) (m ∷ []));
      sized = omega (arith, ap length c, length-append (copied (take j ms) M.args M.keys) g, M.sized);
      others = A.2;
      is = M.is ∙ ap (λ (gs : List (List Node)). copied (take j ms) M.args M.keys ++ flat gs) h ∙ sym (append_assoc (copied (take j ms) M.args M.keys) g (flat more))
          ∙ ap (λ (zs : List Node). zs ++ flat more) (sym c);
    }

-- a node of the body's label and arity is passed, and its children are left
pub passes : (ms xs : List Node) (j size : ℕ) (found left : List Key) (k : Key) (m : Node) (n : Node) (below : List Node) (more : List (List Node)) → slice_get ms j ≡ Some m → hole m.label ≡ 0
    → (M : IsMatched ms xs j size found (k ∷ left)) → M.more ≡ (n ∷ below) ∷ more → n.label ≡ m.label → n.kids ≡ m.kids
    → IsMatched ms xs (j + 1) (size + 1) found (map key_of (roots kids_of n.kids below) ++ left)
passes ms xs j size found left k m n below more e z M h l q =
    let A : AreArgs (k ∷ left) ((n ∷ below) ∷ more) = subst (λ (gs : List (List Node)). AreArgs (k ∷ left) gs) h M.others in
    let s = split-at ms j m e in
    let t : AreTerms kids_of (n.kids + 0) below = A.0 in
    let u : AreTerms kids_of n.kids below = let y : n.kids + 0 ≡ n.kids = omega arith in subst (λ (c : ℕ). AreTerms kids_of c below) y t in
    let o : record m { key = n.key } ≡ n = node m n l q in
    let c : copied (take (j + 1) ms) M.args (M.keys ++ n.key ∷ []) ≡ copied (take j ms) M.args M.keys ++ n ∷ [] =
    ap (λ (zs : List Node). copied zs M.args (M.keys ++ n.key ∷ [])) s.1
    ∙ ap (λ (gs : List (List Node)). copied (take j ms ++ m ∷ []) gs (M.keys ++ n.key ∷ [])) (sym (append-nil M.args))
    ∙ copied-append (take j ms) (m ∷ []) M.args [] M.keys (n.key ∷ []) M.enough M.many
    ∙ ap (λ (zs : List Node). copied (take j ms) M.args M.keys ++ zs) (copied-real m [] [] (n.key ∷ []) z ∙ ap (λ (x : Node). x ∷ []) o) in
    record {
      args = M.args;
      keys = M.keys ++ n.key ∷ [];
      more = terms kids_of n.kids below ++ more;
      roots = M.roots;
      enough = omega (arith, M.enough, ap holes_in s.1, holes-append (take j ms) (m ∷ []), z);
      many = omega (arith, length-append M.keys (n.key ∷ []), M.many, ap length s.1, length-append (take j ms) (m ∷ []));
      sized = omega (arith, ap length c, length-append (copied (take j ms) M.args M.keys) (n ∷ []), M.sized);
      others = args-append (map key_of (roots kids_of n.kids below)) left (terms kids_of n.kids below) more (are-args n.kids 0 below t) A.2;
      is = M.is ∙ ap (λ (gs : List (List Node)). copied (take j ms) M.args M.keys ++ flat gs) h
          ∙ ap (λ (zs : List Node). copied (take j ms) M.args M.keys ++ (n ∷ zs)) (ap (λ (zs : List Node). zs ++ flat more) (sym (flat-terms n.kids below u)) ∙ sym (flat-append (terms kids_of n.kids below) more))
          ∙ sym (append_assoc (copied (take j ms) M.args M.keys) (n ∷ []) (flat (terms kids_of n.kids below ++ more)))
          ∙ ap (λ (zs : List Node). zs ++ flat (terms kids_of n.kids below ++ more)) (sym c);
    }
  where
    node : (m n : Node) → n.label ≡ m.label → n.kids ≡ m.kids → record m { key = n.key } ≡ n
    node m n l q = ap (λ (x : Label). let y : Node = record { key = n.key; label = x; kids = m.kids } in y) (sym l) ∙ ap (λ (x : ℕ). let y : Node = record { key = n.key; label = n.label; kids = x } in y) (sym q)

-- the next node is the body's, wherever the body stands over some terms: at another label or arity there is no match
pub agrees : (ms xs : List Node) (j size : ℕ) (found left : List Key) (k : Key) (m : Node) (n : Node) (below : List Node) (more : List (List Node)) → slice_get ms j ≡ Some m → hole m.label ≡ 0
    → (M : IsMatched ms xs j size found (k ∷ left)) → M.more ≡ (n ∷ below) ∷ more → (ks : List Key) → IsBodyOver ms xs ks → (n.label ≡ m.label) × (n.kids ≡ m.kids)
agrees ms xs j size found left k m n below more e z M h ks N =
    let s = split-at ms j m e in
    let front : List Node = take j ms in
    let bs : List Node = m ∷ drop (j + 1) ms in
    let rest : List Node = n ∷ (below ++ flat more) in
    let q : copied (front ++ bs) N.args N.keys ≡ copied front M.args M.keys ++ rest =
    ap (λ (zs : List Node). copied zs N.args N.keys) (sym s.0) ∙ sym N.is ∙ M.is ∙ ap (λ (gs : List (List Node)). copied front M.args M.keys ++ flat gs) h in
    let a = begins-alike front bs found ks M.args N.args M.keys N.keys rest M.roots N.roots M.enough (N.enough ∙ ap holes_in s.0) q in
    let c = sym (copied-real m (drop (j + 1) ms) (drop (holes_in front) N.args) (drop (length front) N.keys) z) ∙ a.0 in
    (sym (ap (λ (zs : List Node). (get_or zs 0 n).label) c), sym (ap (λ (zs : List Node). (get_or zs 0 n).kids) c))
