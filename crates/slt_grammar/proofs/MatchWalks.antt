-- A walk over a body and a term at once.
use Rattle.std.proofs.Common.{rules, ◌≡◌, ◌≢◌, Bool, true, false, not, get_or, ℕ, zero, suc, ◌+◌, ◌<◌, ◌≤◌, List, [], ◌∷◌, ◌++◌, length, take, drop, map, Option, Some, None, slice_get, refl, sym, ap, ◌∙◌, subst, arith, append_assoc, length-append}
use Rattle.std.specs.Option.{unwrap_or}
use Rattle.std.proofs.lemmas.List.{length-take-le}
use Rattle.rule_arena.specs.Preorder.{AreTerms, span, roots, subterm}
use Rattle.rule_arena.specs.Terms.{Node, key_in, key_of, kids_of}
use Rattle.rule_arena.specs.declared.key.Key.{Key}
use Rattle.rule_arena.specs.declared.label.Label.{Label}
use Rattle.rule_arena.specs.declared.label.Label.TheVariants.{Bottom, Symbol, Call, Param}
use Rattle.rule_arena.specs.contracts.label.LabelPartialEq.TheImpl as eqs
use Rattle.rule_arena.proofs.ChildLemmas.{length-roots}
use Rattle.rule_arena.proofs.PreorderLemmas.{AreTerms-with, split_at, subterm-split}
use Rattle.slt_grammar.specs.Bodies.{arity, params}
use Rattle.slt_grammar.specs.Calling.{IsBodyOver}
use Rattle.slt_grammar.specs.Copying.{hole, holes_in, copied}
use Rattle.slt_grammar.specs.Detaching.{AreArgs}
use Rattle.slt_grammar.specs.Keyed.{Keyed, KeyedRule, IsKeyed, HasArities, nodes_at}
use Rattle.slt_grammar.specs.KeyedEdits.{label_at}
use Rattle.slt_grammar.proofs.Agreeing.{label-is}
use Rattle.slt_grammar.proofs.FoldedRules.{flat}
use Rattle.slt_grammar.proofs.InlinedRules.{holes-params}
use Rattle.slt_grammar.proofs.Inlinings.{inside, length-args, node-at}
use Rattle.slt_grammar.proofs.KeyedLemmas.{body_at-rules_of, length-rules_of}
use Rattle.slt_grammar.proofs.Matching.{IsMatched, starts, ends, takes, passes, agrees, holes-append, split-at}

-- what follows nodes
seam : (front : List Node) (n : Node) (zs : List Node) (q : ℕ) → length front ≡ q → (key_in (front ++ (n ∷ zs)) q ≡ Some n.key) × (slice_get (front ++ (n ∷ zs)) q ≡ Some n)
seam [] n zs zero e = (refl, refl)
seam [] n zs (suc q) e = absurd (omega arith)
seam (m ∷ front) n zs zero e = absurd (omega arith)
seam (m ∷ front) n zs (suc q) e = seam front n zs q (omega arith)

-- the first of the terms that are left lies at a place
pub record Laid (ns : List Node) (q : ℕ) (k : Key) (more : List (List Node)) : Type 0 where
  pub node : Node
  pub below : List Node
  pub rest : List (List Node)
  pub is : more ≡ (node ∷ below) ∷ rest
  pub front : List Node
  pub back : List Node
  pub whole : ns ≡ front ++ ((node ∷ below) ++ back)
  pub place : length front ≡ q
  pub term : AreTerms kids_of 1 (node ∷ below)
  pub key : node.key ≡ k

pub laid : (ms ns : List Node) (p j size : ℕ) (found left : List Key) (k : Key) → p ≤ length ns → (M : IsMatched ms (subterm kids_of ns p) j size found (k ∷ left)) → Laid ns (p + size) k M.more
laid ms ns p j size found left k h M = at M.more refl M.others
  where
    at : (more : List (List Node)) → M.more ≡ more → AreArgs (k ∷ left) more → Laid ns (p + size) k more
    at [] e A = absurd A
    at ([] ∷ rest) e A = absurd A.0
    at ((n ∷ below) ∷ rest) e A =
        let front : List Node = copied (take j ms) M.args M.keys in
        let tail : List Node = drop (span kids_of 1 (drop p ns)) (drop p ns) in
        let g : List Node = n ∷ below in
        let i : subterm kids_of ns p ≡ front ++ (g ++ flat rest) = M.is ∙ ap (λ (gs : List (List Node)). front ++ flat gs) e in
        record {
          node = n;
          below = below;
          rest = rest;
          is = refl;
          front = take p ns ++ front;
          back = flat rest ++ tail;
          whole = sym (split_at kids_of ns p) ∙ ap (λ (zs : List Node). take p ns ++ (zs ++ tail)) i
              ∙ ap (λ (zs : List Node). take p ns ++ zs) (append_assoc front (g ++ flat rest) tail ∙ ap (λ (zs : List Node). front ++ zs) (append_assoc g (flat rest) tail))
              ∙ sym (append_assoc (take p ns) front (g ++ (flat rest ++ tail)));
          place = omega (arith, length-append (take p ns) front, length-take-le p ns h, M.sized);
          term = A.0;
          key = (let z : Some n.key ≡ Some k = A.1 in cc);
        }

pub key-laid : (ns : List Node) (q : ℕ) (k : Key) (more : List (List Node)) → Laid ns q k more → key_in ns q ≡ Some k
key-laid ns q k more L =
    ap (λ (zs : List Node). key_in zs q) L.whole ∙ (seam L.front L.node (L.below ++ L.back) q L.place).0 ∙ ap (λ (x : Key). Some x) L.key

pub node-laid : (ns : List Node) (q : ℕ) (k : Key) (more : List (List Node)) (L : Laid ns q k more) → slice_get ns q ≡ Some L.node
node-laid ns q k more L = ap (λ (zs : List Node). slice_get zs q) L.whole ∙ (seam L.front L.node (L.below ++ L.back) q L.place).1

term-laid : (ns : List Node) (q : ℕ) (k : Key) (more : List (List Node)) (L : Laid ns q k more) → subterm kids_of ns q ≡ L.node ∷ L.below
term-laid ns q k more L = ap (λ (zs : List Node). subterm kids_of zs q) L.whole ∙ subterm-split kids_of L.front (L.node ∷ L.below) L.back q L.place L.term

-- the body's nodes before the next one were matched, and the next term begins here
pub record Walk (ms ns : List Node) (p : ℕ) (next : Option Key) (here : Key) (found : List Key) : Type 0 where
  pub passed : ℕ
  pub size : ℕ
  pub left : List Key
  pub matched : IsMatched ms (subterm kids_of ns p) passed size found left
  pub few : passed ≤ length ms
  pub at : key_in ms passed ≡ next
  pub open_terms : AreTerms kids_of (length left) (drop passed ms)
  pub head : (k : Key) (rest : List Key) → left ≡ k ∷ rest → k ≡ here

pub walk-begins : (ms ns : List Node) (p : ℕ) (next : Option Key) (here : Key) (found : List Key) → AreTerms kids_of 1 ms → AreTerms kids_of 1 ns → key_in ns p ≡ Some here → key_in ms 0 ≡ next → found ≡ [] → Walk ms ns p next here found
walk-begins ms ns p next here found s t e n none =
    let h = node-at ns p here e in
    let f : key_in (subterm kids_of ns p) 0 ≡ Some here =
    ap (λ (zs : List Node). key_in (take (span kids_of 1 zs) zs) 0) h.1.1.1.1 ∙ ap (λ (x : Key). Some x) h.1.0 in
    let M = starts ms (subterm kids_of ns p) here (AreTerms-with kids_of 1 ns p ns t (inside ns p here e) t).0 f in
    record {
      passed = 0;
      size = 0;
      left = here ∷ [];
      matched = subst (λ (ks : List Key). IsMatched ms (subterm kids_of ns p) 0 0 ks (here ∷ [])) (sym none) M;
      few = omega arith;
      at = n;
      open_terms = s;
      head = λ k rest q. first k rest q;
    }
  where
    first : (k : Key) (rest : List Key) → here ∷ [] ≡ k ∷ rest → k ≡ here
    first k rest q = let z : Some here ≡ Some k = ap (λ (xs : List Key). slice_get xs 0) q in cc

-- behind the body's last node no term is left, so that the walk in the term may rest anywhere
none-left : (ms : List Node) (q : ℕ) (ks : List Key) → key_in ms q ≡ None → AreTerms kids_of (length ks) (drop q ms) → ks ≡ []
none-left ms q [] e t = refl
none-left [] zero (k ∷ ks) e t = absurd t
none-left [] (suc q) (k ∷ ks) e t = absurd t
none-left (m ∷ ms) zero (k ∷ ks) e t = absurd (let z : Some m.key ≡ None = e in cc)
none-left (m ∷ ms) (suc q) (k ∷ ks) e t = none-left ms q (k ∷ ks) e t

pub walk-rests : (ms ns : List Node) (p : ℕ) (next : Option Key) (here then : Key) (found : List Key) → next ≡ None → (W : Walk ms ns p next here found) → (V : Walk ms ns p next then found) × (V.passed ≡ W.passed)
walk-rests ms ns p next here then found e W = (
  record {
    passed = W.passed;
    size = W.size;
    left = W.left;
    matched = W.matched;
    few = W.few;
    at = W.at;
    open_terms = W.open_terms;
    head = λ k rest q. absurd (let z : [] ≡ k ∷ rest = sym (none-left ms W.passed W.left (W.at ∙ e) W.open_terms) ∙ q in cc);
  },
  refl,
)

-- all of the body was matched
pub walk-ends : (ms ns : List Node) (p : ℕ) (here : Key) (found : List Key) → Walk ms ns p None here found → IsBodyOver ms (subterm kids_of ns p) found
walk-ends ms ns p here found W =
    let e = past ms W.passed W.at in
    let z : W.left ≡ [] = none W.left (subst (λ (zs : List Node). AreTerms kids_of (length W.left) zs) e.0 W.open_terms) in
    ends ms (subterm kids_of ns p) W.passed W.size found e.1 (subst (λ (ks : List Key). IsMatched ms (subterm kids_of ns p) W.passed W.size found ks) z W.matched)
  where
    past : (xs : List Node) (q : ℕ) → key_in xs q ≡ None → (drop q xs ≡ []) × (take q xs ≡ xs)
    past [] zero e = (refl, refl)
    past [] (suc q) e = (refl, refl)
    past (x ∷ xs) zero e = absurd (let z : Some x.key ≡ None = e in cc)
    past (x ∷ xs) (suc q) e = let h = past xs q e in (h.0, ap (λ (zs : List Node). x ∷ zs) h.1)

    none : (ks : List Key) → AreTerms kids_of (length ks) [] → ks ≡ []
    none [] t = refl
    none (k ∷ ks) t = absurd t

drop-here : (ms : List Node) (j : ℕ) (m : Node) → slice_get ms j ≡ Some m → drop j ms ≡ m ∷ drop (j + 1) ms
drop-here [] j m e = absurd (cc)
drop-here (n ∷ ms) zero m e = let z : n ≡ m = cc in ap (λ (x : Node). x ∷ ms) z
drop-here (n ∷ ms) (suc j) m e = let z : suc j + 1 ≡ suc (j + 1) = omega arith in rw z (drop-here ms j m e)

-- the walk at a node of the body
module _ (ms ns : List Node) (p : ℕ) (node here : Key) (found : List Key) (W : Walk ms ns p (Some node) here found) (within : p ≤ length ns)
    (m : Node) (there : slice_get ms W.passed ≡ Some m) where
  pub opened : (rest : List Key) × (W.left ≡ here ∷ rest) × AreTerms kids_of (m.kids + length rest) (drop (W.passed + 1) ms)
  opened = at W.left refl (subst (λ (zs : List Node). AreTerms kids_of (length W.left) zs) (drop-here ms W.passed m there) W.open_terms)
    where
      at : (ks : List Key) → W.left ≡ ks → AreTerms kids_of (length ks) (m ∷ drop (W.passed + 1) ms) → (rest : List Key) × (W.left ≡ here ∷ rest) × AreTerms kids_of (m.kids + length rest) (drop (W.passed + 1) ms)
      at [] e t = absurd t
      at (k ∷ rest) e t = (rest, e ∙ ap (λ (x : Key). x ∷ rest) (W.head k rest e), t)

  abbrev pub matched-here : IsMatched ms (subterm kids_of ns p) W.passed W.size found (here ∷ opened.0)
  matched-here = subst (λ (ks : List Key). IsMatched ms (subterm kids_of ns p) W.passed W.size found ks) opened.1 W.matched

  abbrev pub laid-here : Laid ns (p + W.size) here matched-here.more
  laid-here = laid ms ns p W.passed W.size found opened.0 here within matched-here

  pub stands-here : key_in ns (p + W.size) ≡ Some here
  stands-here = key-laid ns (p + W.size) here matched-here.more laid-here

  pub few-passed : W.passed < length ms
  few-passed = inside ms W.passed node W.at

  pub few-found : hole m.label ≡ 1 → length found < holes_in ms
  few-found z =
      let s = split-at ms W.passed m there in
      omega (
        arith,
        z,
        length-args found W.matched.args W.matched.roots,
        W.matched.enough,
        ap holes_in s.0,
        holes-append (take W.passed ms) (m ∷ drop (W.passed + 1) ms),
      )

  -- a term that is left at a place begins with the key that follows
  next-head : (j size : ℕ) (fs left : List Key) (past : Option Key) → IsMatched ms (subterm kids_of ns p) j size fs left → key_in ns (p + size) ≡ past → (k : Key) (rest : List Key) → left ≡ k ∷ rest → k ≡ unwrap_or past here
  next-head j size fs left past M e k rest q =
      let N : IsMatched ms (subterm kids_of ns p) j size fs (k ∷ rest) = subst (λ (ks : List Key). IsMatched ms (subterm kids_of ns p) j size fs ks) q M in
      let f : key_in ns (p + size) ≡ Some k = key-laid ns (p + size) k N.more (laid ms ns p j size fs rest k within N) in
      ap (λ (o : Option Key). unwrap_or o here) (sym f ∙ e)

  pub walk-takes : (next past : Option Key) (then : Key) (more : List Key) → then ≡ unwrap_or past here → more ≡ found ++ here ∷ [] → hole m.label ≡ 1 → m.kids ≡ 0 → key_in ms (W.passed + 1) ≡ next → key_in ns ((p + W.size) + length (subterm kids_of ns (p + W.size))) ≡ past
      → (V : Walk ms ns p next then more) × (V.passed ≡ W.passed + 1)
  walk-takes next past then more th mo z leaf e f =
      let L = laid-here in
      let g : List Node = L.node ∷ L.below in
      let M = takes ms (subterm kids_of ns p) W.passed W.size found opened.0 here m g L.rest there z matched-here L.is in
      let q : p + (W.size + length g) ≡ (p + W.size) + length (subterm kids_of ns (p + W.size)) = omega (arith, ap length (term-laid ns (p + W.size) here matched-here.more L)) in
      let t : m.kids + length opened.0 ≡ length opened.0 = omega (arith, leaf) in (
        record {
          passed = W.passed + 1;
          size = W.size + length g;
          left = opened.0;
          matched = subst (λ (ks : List Key). IsMatched ms (subterm kids_of ns p) (W.passed + 1) (W.size + length g) ks opened.0) (sym mo) M;
          few = omega (arith, few-passed);
          at = e;
          open_terms = subst (λ (n : ℕ). AreTerms kids_of n (drop (W.passed + 1) ms)) t opened.2;
          head = λ k rest x. next-head (W.passed + 1) (W.size + length g) (found ++ here ∷ []) opened.0 past M (ap (λ (i : ℕ). key_in ns i) q ∙ f) k rest x ∙ sym th;
        },
        refl,
      )

  module _ (n : Node) (stands : slice_get ns (p + W.size) ≡ Some n) where
    same-node : laid-here.node ≡ n
    same-node = let e = node-laid ns (p + W.size) here matched-here.more laid-here in cc

    pub walk-passes : (next past : Option Key) (then : Key) → then ≡ unwrap_or past here → hole m.label ≡ 0 → n.label ≡ m.label → n.kids ≡ m.kids → key_in ms (W.passed + 1) ≡ next → key_in ns ((p + W.size) + 1) ≡ past
        → (V : Walk ms ns p next then found) × (V.passed ≡ W.passed + 1)
    walk-passes next past then th z l c e f =
        let L = laid-here in
        let s = same-node in
        let a : L.node.label ≡ m.label = ap (λ (x : Node). x.label) s ∙ l in
        let b : L.node.kids ≡ m.kids = ap (λ (x : Node). x.kids) s ∙ c in
        let M = passes ms (subterm kids_of ns p) W.passed W.size found opened.0 here m L.node L.below L.rest there z matched-here L.is a b in
        let ks : List Key = map key_of (roots kids_of L.node.kids L.below) in
        let t : m.kids + length opened.0 ≡ length (ks ++ opened.0) = omega (arith, length-append ks opened.0, length-roots L.node.kids 0 L.below L.term, b) in
        let q : p + (W.size + 1) ≡ (p + W.size) + 1 = omega arith in (
          record {
            passed = W.passed + 1;
            size = W.size + 1;
            left = ks ++ opened.0;
            matched = M;
            few = omega (arith, few-passed);
            at = e;
            open_terms = subst (λ (n : ℕ). AreTerms kids_of n (drop (W.passed + 1) ms)) t opened.2;
            head = λ k rest x. next-head (W.passed + 1) (W.size + 1) found (ks ++ opened.0) past M (ap (λ (i : ℕ). key_in ns i) q ∙ f) k rest x ∙ sym th;
          },
          refl,
        )

    pub walk-misses : hole m.label ≡ 0 → (n.label ≡ m.label → ⊥) → (ks : List Key) → IsBodyOver ms (subterm kids_of ns p) ks → ⊥
    walk-misses z d ks N =
        let L = laid-here in
        let a = agrees ms (subterm kids_of ns p) W.passed W.size found opened.0 here m L.node L.below L.rest there z matched-here L.is ks N in
        d (ap (λ (x : Node). x.label) (sym same-node) ∙ a.0)

-- labels that are compared
pub label-sound : (l m : Label) → eqs.eq-value.it l m ≡ true → l ≡ m
label-sound l m x = search rules

pub label-same : (l m : Label) → l ≡ m → eqs.eq-value.it l m ≡ true
label-same l m x = search rules

pub told-other : (b e : Bool) → b ≡ not e → b ≡ true → e ≡ true → ⊥
told-other b true n x y = let z : true ≡ false = sym x ∙ n in cc
told-other b false n x y = let z : false ≡ true = y in cc

pub told-same : (b e : Bool) → b ≡ not e → b ≡ false → e ≡ true
told-same b true n x = refl
told-same b false n x = absurd (let z : true ≡ false = sym n ∙ x in cc)

pub hole-other : (l : Label) → l ≢ Param → hole l ≡ 0
hole-other Bottom d = refl
hole-other (Symbol f) d = refl
hole-other (Call q) d = refl
hole-other Param d = absurd (d refl)

-- a node has as many children as its label says
pub kids-are : (ranks : List ℕ) (ns : List Node) (j : ℕ) (m : Node) → HasArities ranks ns → slice_get ns j ≡ Some m → m.kids ≡ arity ranks m.label
kids-are ranks [] j m a e = absurd (cc)
kids-are ranks (n ∷ ns) zero m a e = let z : n ≡ m = cc in subst (λ (x : Node). x.kids ≡ arity ranks x.label) z (a 0 n (omega arith))
kids-are ranks (n ∷ ns) (suc j) m a e = kids-are ranks ns j m (λ k d h. a (suc k) d (omega arith)) e

-- a rule has at most eight parameters
pub few-holes : (g : Keyed) → IsKeyed g → (r : ℕ) → r < length g.rules → holes_in (nodes_at g.rules r) ≤ 8
few-holes g K r h =
    let R = K.grammar.each r (omega (arith, h, length-rules_of g.rules)) in
    omega (arith, holes-params (nodes_at g.rules r), ap params (body_at-rules_of g.rules r), R.linear, R.shaped.small)

-- the first label of a rule
pub label-first : (G : List KeyedRule) (r : ℕ) (n : Node) → slice_get (nodes_at G r) 0 ≡ Some n → label_at G r 0 ≡ n.label
label-first G r n e = ap (λ (ls : List Label). get_or ls 0 Bottom) (body_at-rules_of G r) ∙ label-is (nodes_at G r) 0 n e
