-- Occurrences in rules without keys, and the same ones in rules with keys.
use Rattle.std.proofs.Common.{◌≡◌, ◌≢◌, ◌≤◌, ◌+◌, length, ℕ, zero, suc, List, [], ◌∷◌, ◌++◌, get_or, drop, Option, Some, None, IfSome, IfNone, slice_get, refl, ap, sym, ◌∙◌, subst, arith}
use Rattle.rule_arena.specs.Preorder.{parents, places}
use Rattle.rule_arena.specs.Terms.{Node, kids_of}
use Rattle.rule_arena.specs.declared.key.Key.{Key}
use Rattle.rule_arena.specs.declared.label.Label.{Label}
use Rattle.rule_arena.specs.declared.label.Label.TheVariants.{Bottom, Symbol, Call, Param}
use Rattle.rule_arena.proofs.NodeLemmas.{key_of_node}
use Rattle.slt_grammar.specs.Algebras.{ranks_of}
use Rattle.slt_grammar.specs.Bodies.{arity}
use Rattle.slt_grammar.specs.Grammars.{body_at}
use Rattle.slt_grammar.specs.Digrams.{Occurrence, Occurs, AreDisjoint, HasThreeDisjoint, numbered, parent_place}
use Rattle.slt_grammar.specs.Keyed.{Keyed, KeyedRule, IsKeyed, HasArities, rules_of, labels_of, nodes_at, key_at}
use Rattle.slt_grammar.specs.declared.digram.Digram.{Digram}
use Rattle.slt_grammar.specs.declared.rules.Rule.{Rule}
use Rattle.slt_grammar.proofs.KeyedLemmas.{body_at-rules_of, label-there}
use Rattle.digram_index.specs.Digrams.{Cell, parent_node, joint_rank, occurrence_under, occurrence_below, occurrence_at}
use Rattle.digram_index.specs.Settled.{NodePair, OccursBetween, PairsShareNone, OccurApart, HasApart, HasTwoDisjoint}
use Rattle.digram_index.proofs.LevelLemmas.{same_some}
use Rattle.digram_index.proofs.Apartness.{Stands, stands, one-key}

-- a node with a place under it, and the node's place with the same place under it
abbrev pub StandsFor : List Node → Option (Node × ℕ) → Option (ℕ × ℕ) → Type 0
StandsFor ns None None = Unit {0}
StandsFor ns None (Some q) = ⊥
StandsFor ns (Some u) None = ⊥
StandsFor ns (Some u) (Some q) = (slice_get ns q.0 ≡ Some u.0) × (u.1 ≡ q.1)

abbrev pub SamePlaces : List Node → List (Option (Node × ℕ)) → List (Option (ℕ × ℕ)) → Type 0
SamePlaces ns os qs = (i : ℕ) → StandsFor ns (get_or os i None) (get_or qs i None)

same-below : (ns : List Node) (x : Node) (n : ℕ) → slice_get ns n ≡ Some x → (c m : ℕ) (os : List (Option (Node × ℕ))) (qs : List (Option (ℕ × ℕ))) → SamePlaces ns os qs → SamePlaces ns (places x c m ++ os) (places n c m ++ qs)
same-below ns x n h c zero os qs S = S
same-below ns x n h c (suc m) os qs S = at (same-below ns x n h (suc c) m os qs S)
  where
    at : SamePlaces ns (places x (suc c) m ++ os) (places n (suc c) m ++ qs) → (i : ℕ) → StandsFor ns (get_or (Some (x, c) ∷ (places x (suc c) m ++ os)) i None) (get_or (Some (n, c) ∷ (places n (suc c) m ++ qs)) i None)
    at again zero = (h, refl)
    at again (suc i) = again i

same-beside : (ns : List Node) (os : List (Option (Node × ℕ))) (qs : List (Option (ℕ × ℕ))) → SamePlaces ns os qs → SamePlaces ns (drop 1 os) (drop 1 qs)
same-beside ns [] [] S = S
same-beside ns [] (q ∷ qs) S = λ i. S (suc i)
same-beside ns (o ∷ os) [] S = λ i. S (suc i)
same-beside ns (o ∷ os) (q ∷ qs) S = λ i. S (suc i)

-- parents are found alike among nodes with keys and among labels with their places
parents-alike : (ranks : List ℕ) (all ns : List Node) (n : ℕ) (os : List (Option (Node × ℕ))) (qs : List (Option (ℕ × ℕ))) → ((i : ℕ) → slice_get all (n + i) ≡ slice_get ns i) → HasArities ranks ns → SamePlaces all os qs
    → (p : ℕ) → StandsFor all (get_or (parents kids_of (λ m. m) os ns) p None) (get_or (parents (λ (x : ℕ × Label). arity ranks x.1) (λ (x : ℕ × Label). x.0) qs (numbered n (labels_of ns))) p None)
parents-alike ranks all [] n os qs f a S p = tt
parents-alike ranks all (x ∷ ns) n os qs f a S zero = S 0
parents-alike ranks all (x ∷ ns) n os qs f a S (suc p) =
    let h : slice_get all n ≡ Some x = ap (slice_get all) (let z : n ≡ n + 0 = omega arith in z) ∙ f 0 in
    let k : x.kids ≡ arity ranks x.label = a 0 x (omega arith) in
    let T = same-below all x n h 1 x.kids (drop 1 os) (drop 1 qs) (same-beside all os qs S) in
    let U : SamePlaces all (places x 1 x.kids ++ drop 1 os) (places n 1 (arity ranks x.label) ++ drop 1 qs) = subst (λ m. SamePlaces all (places x 1 x.kids ++ drop 1 os) (places n 1 m ++ drop 1 qs)) k T in
    parents-alike ranks all ns (suc n) (places x 1 x.kids ++ drop 1 os) (places n 1 (arity ranks x.label) ++ drop 1 qs) (λ i. ap (slice_get all) (let z : suc n + i ≡ n + suc i = omega arith in z) ∙ f (suc i)) (λ i d b. a (suc i) d (omega arith)) U p

parent-alike : (g : Keyed) → IsKeyed g → (r p : ℕ) → StandsFor (nodes_at g.rules r) (parent_node (nodes_at g.rules r) p) (parent_place (ranks_of (rules_of g.rules)) (body_at (rules_of g.rules) r) p)
parent-alike g K r p =
    let ns : List Node = nodes_at g.rules r in
    let t = parents-alike (ranks_of (rules_of g.rules)) ns ns 0 (None ∷ []) (None ∷ []) (λ i. ap (slice_get ns) (let z : 0 + i ≡ i = omega arith in z)) (K.arities r) nothing p in
    subst (λ (ls : List Label). StandsFor ns (parent_node ns p) (parent_place (ranks_of (rules_of g.rules)) ls p)) (sym (body_at-rules_of g.rules r)) t
  where
    nothing : (i : ℕ) → StandsFor (nodes_at g.rules r) (get_or (None ∷ []) i None) (get_or (None ∷ []) i None)
    nothing zero = tt
    nothing (suc i) = tt

-- the nodes of an occurrence have these numbers
pub record Shows (G : List KeyedRule) (o : Occurrence) (n : NodePair) : Type 0 where
  pub low : Key
  pub high : Key
  pub low_there : key_at G o.rule o.lower ≡ Some low
  pub high_there : key_at G o.rule o.upper ≡ Some high
  pub low_is : low.number ≡ n.low
  pub high_is : high.number ≡ n.high

one-number : (G : List KeyedRule) (r p s q : ℕ) (k m : Key) → r ≡ s → p ≡ q → key_at G r p ≡ Some k → key_at G s q ≡ Some m → k.number ≡ m.number
one-number G r p s q k m x y a b =
    let z : Some k ≡ Some m = sym a ∙ ap (λ t. key_at G t p) x ∙ ap (λ t. key_at G s t) y ∙ b in
    ap (λ (t : Key). t.number) (same_some k m z)

apart-disjoint : (G : List KeyedRule) (a b : Occurrence) (m n : NodePair) → Shows G a m → Shows G b n → PairsShareNone m n → AreDisjoint a b
apart-disjoint G a b m n A B X = λ r. record {
  lowers = λ e. X.lows (sym A.low_is ∙ one-number G a.rule a.lower b.rule b.lower A.low B.low r e A.low_there B.low_there ∙ B.low_is);
  uppers = λ e. X.highs (sym A.high_is ∙ one-number G a.rule a.upper b.rule b.upper A.high B.high r e A.high_there B.high_there ∙ B.high_is);
  down = λ e. X.down (sym A.low_is ∙ one-number G a.rule a.lower b.rule b.upper A.low B.high r e A.low_there B.high_there ∙ B.high_is);
  back = λ e. X.back (sym A.high_is ∙ one-number G a.rule a.upper b.rule b.lower A.high B.low r e A.high_there B.low_there ∙ B.low_is);
}

one-place : (g : Keyed) → IsKeyed g → (r p s q : ℕ) (k m : Key) → key_at g.rules r p ≡ Some k → key_at g.rules s q ≡ Some m → k.number ≡ m.number → (r ≡ s) × (p ≡ q)
one-place g K r p s q k m a b e = K.once m r p s q (a ∙ ap Some (one-key k m e)) b

pub disjoint-apart : (g : Keyed) → IsKeyed g → (a b : Occurrence) (m n : NodePair) → Shows g.rules a m → Shows g.rules b n → AreDisjoint a b → PairsShareNone m n
disjoint-apart g K a b m n A B D = record {
  lows = λ e. let z = one-place g K a.rule a.lower b.rule b.lower A.low B.low A.low_there B.low_there (A.low_is ∙ e ∙ sym B.low_is) in (D z.0).lowers z.1;
  highs = λ e. let z = one-place g K a.rule a.upper b.rule b.upper A.high B.high A.high_there B.high_there (A.high_is ∙ e ∙ sym B.high_is) in (D z.0).uppers z.1;
  down = λ e. let z = one-place g K a.rule a.lower b.rule b.upper A.low B.high A.low_there B.high_there (A.low_is ∙ e ∙ sym B.high_is) in (D z.0).down z.1;
  back = λ e. let z = one-place g K a.rule a.upper b.rule b.lower A.high B.low A.high_there B.low_there (A.high_is ∙ e ∙ sym B.low_is) in (D z.0).back z.1;
}

-- a lower node is no parameter
under-real : (ranks : List ℕ) (up : Node) (c : ℕ) (l : Label) (o : Cell) → occurrence_under ranks up c l ≡ Some o → l ≢ Param
under-real ranks up c Bottom o e = λ x. let z : Bottom ≡ Param = x in cc
under-real ranks up c (Symbol f) o e = λ x. let z : Symbol f ≡ Param = x in cc
under-real ranks up c (Call q) o e = λ x. let z : Call q ≡ Param = x in cc
under-real ranks up c Param o e = absurd (let z : None ≡ Some o = e in cc)

pub real-under : (ranks : List ℕ) (up : Node) (c : ℕ) (l : Label) → l ≢ Param → occurrence_under ranks up c l ≡ Some (record { digram = record { upper = up.label; place = c; lower = l }; rank = joint_rank ranks up.label l; upper = up.key.number })
real-under ranks up c Bottom h = refl
real-under ranks up c (Symbol f) h = refl
real-under ranks up c (Call q) h = refl
real-under ranks up c Param h = absurd (h refl)

-- an occurrence among nodes with keys is one without them
pub plain-occurs : (g : Keyed) → IsKeyed g → (d : Digram) (n : NodePair) → OccursBetween g.rules d n → (o : Occurrence) × (Occurs (rules_of g.rules) d o × Shows g.rules o n)
plain-occurs g K d n O = at (parent_place ranks body O.at.place) refl (subst (λ u. StandsFor ns u (parent_place ranks body O.at.place)) S.parent (parent-alike g K O.at.rule O.at.place))
  where
    ns : List Node
    ns = nodes_at g.rules O.at.rule

    ranks : List ℕ
    ranks = ranks_of (rules_of g.rules)

    body : List Label
    body = body_at (rules_of g.rules) O.at.rule

    S : Stands g.rules O.at.rule O.at.place O.key O.occurrence
    S = stands g.rules O.at.rule O.at.place O.key O.occurrence O.at.there O.at.here

    real : S.node.label ≢ Param
    real =
        let z = ap (λ v. occurrence_below ranks v (slice_get ns O.at.place)) S.parent ∙ ap (λ v. occurrence_below ranks (Some (S.up, O.occurrence.digram.place)) v) S.here in
        under-real ranks S.up O.occurrence.digram.place S.node.label O.occurrence (sym z ∙ O.at.here)

    at : (q : Option (ℕ × ℕ)) → parent_place ranks body O.at.place ≡ q → StandsFor ns (Some (S.up, O.occurrence.digram.place)) q → (o : Occurrence) × (Occurs (rules_of g.rules) d o × Shows g.rules o n)
    at None e s = absurd s
    at (Some q) e s = (
      record { rule = O.at.rule; upper = q.0; lower = O.at.place },
      (
        record {
          child = e ∙ ap (λ (c : ℕ). Some (q.0, c)) (sym s.1 ∙ ap (λ (x : Digram). x.place) O.digram);
          above = label-there g.rules O.at.rule q.0 S.up s.0 ∙ ap Some (S.high ∙ ap (λ (x : Digram). x.upper) O.digram);
          below = label-there g.rules O.at.rule O.at.place S.node S.here ∙ ap Some (S.low ∙ ap (λ (x : Digram). x.lower) O.digram);
          real = λ x. real (S.low ∙ ap (λ (y : Digram). y.lower) O.digram ∙ x);
        },
        record { low = O.key; high = S.up.key; low_there = O.at.there; high_there = key_of_node ns q.0 S.up s.0; low_is = O.low; high_is = S.upper ∙ O.high },
      ),
    )

-- the node of a label
node-there : (G : List KeyedRule) (r p : ℕ) (l : Label) → slice_get (body_at (rules_of G) r) p ≡ Some l → (n : Node) × ((slice_get (nodes_at G r) p ≡ Some n) × (n.label ≡ l))
node-there G r p l e = mapped (nodes_at G r) p (ap (λ (ls : List Label). slice_get ls p) (sym (body_at-rules_of G r)) ∙ e)
  where
    mapped : (ns : List Node) (p : ℕ) → slice_get (labels_of ns) p ≡ Some l → (n : Node) × ((slice_get ns p ≡ Some n) × (n.label ≡ l))
    mapped [] p e = absurd (cc)
    mapped (m ∷ ns) zero e = (m, (refl, same_some m.label l e))
    mapped (m ∷ ns) (suc p) e = mapped ns p e

digram-fields : (x y : Digram) → x.upper ≡ y.upper → x.place ≡ y.place → x.lower ≡ y.lower → x ≡ y
digram-fields x y u p l =
    ap (λ (m : Label). let d : Digram = record { upper = m; place = x.place; lower = x.lower } in d) u
    ∙ ap (λ (c : ℕ). let d : Digram = record { upper = y.upper; place = c; lower = x.lower } in d) p
    ∙ ap (λ (m : Label). let d : Digram = record { upper = y.upper; place = y.place; lower = m } in d) l

-- and the other way round
pub keyed-occurs : (g : Keyed) → IsKeyed g → (d : Digram) (o : Occurrence) → Occurs (rules_of g.rules) d o → (n : NodePair) × (OccursBetween g.rules d n × Shows g.rules o n)
keyed-occurs g K d o O = at (parent_node ns o.lower) refl (subst (λ q. StandsFor ns (parent_node ns o.lower) q) O.child (parent-alike g K o.rule o.lower))
  where
    ns : List Node
    ns = nodes_at g.rules o.rule

    ranks : List ℕ
    ranks = ranks_of (rules_of g.rules)

    low : (n : Node) × ((slice_get ns o.lower ≡ Some n) × (n.label ≡ d.lower))
    low = node-there g.rules o.rule o.lower d.lower O.below

    high : (n : Node) × ((slice_get ns o.upper ≡ Some n) × (n.label ≡ d.upper))
    high = node-there g.rules o.rule o.upper d.upper O.above

    at : (u : Option (Node × ℕ)) → parent_node ns o.lower ≡ u → StandsFor ns u (Some (o.upper, d.place)) → (n : NodePair) × (OccursBetween g.rules d n × Shows g.rules o n)
    at None e s = absurd s
    at (Some u) e s =
        let c : Cell = record { digram = record { upper = u.0.label; place = u.1; lower = low.0.label }; rank = joint_rank ranks u.0.label low.0.label; upper = u.0.key.number } in
        let here : occurrence_at g.rules o.rule o.lower ≡ Some c =
        ap (λ v. occurrence_below ranks v (slice_get ns o.lower)) e ∙ ap (λ v. occurrence_below ranks (Some u) v) low.1.0 ∙ real-under ranks u.0 u.1 low.0.label (λ x. O.real (sym low.1.1 ∙ x))
        in
        let label : u.0.label ≡ d.upper = ap (λ (m : Node). m.label) (same_some u.0 high.0 (sym s.0 ∙ high.1.0)) ∙ high.1.1 in
        let there = key_of_node ns o.lower low.0 low.1.0 in (
          record { low = low.0.key.number; high = u.0.key.number },
          (
            record {
              key = low.0.key;
              occurrence = c;
              at = record { rule = o.rule; place = o.lower; there = there; here = here };
              low = refl;
              high = refl;
              digram = digram-fields c.digram d label s.1 low.1.1;
            },
            record { low = low.0.key; high = u.0.key; low_there = there; high_there = key_of_node ns o.upper u.0 s.0; low_is = refl; high_is = refl },
          ),
        )

module _ (g : Keyed) (K : IsKeyed g) (d : Digram) where
  pub two-disjoint : HasApart g.rules d 2 → HasTwoDisjoint (rules_of g.rules) d
  two-disjoint H = at H.0 H.1.0 H.1.1
    where
      at : (ns : List NodePair) → OccurApart g.rules d ns → 2 ≤ length ns → HasTwoDisjoint (rules_of g.rules) d
      at [] O l = absurd (omega arith)
      at (m ∷ []) O l = absurd (omega arith)
      at (m ∷ n ∷ ns) O l =
          let A = plain-occurs g K d m O.0 in
          let B = plain-occurs g K d n O.1.1.0 in
          record { first = A.0; second = B.0; occurs_first = A.1.0; occurs_second = B.1.0; first_second = apart-disjoint g.rules A.0 B.0 m n A.1.1 B.1.1 O.1.0.0 }

  pub two-apart : HasTwoDisjoint (rules_of g.rules) d → HasApart g.rules d 2
  two-apart H =
      let A = keyed-occurs g K d H.first H.occurs_first in
      let B = keyed-occurs g K d H.second H.occurs_second in
      let ab = disjoint-apart g K H.first H.second A.0 B.0 A.1.1 B.1.1 H.first_second in
      (A.0 ∷ B.0 ∷ [], ((A.1.0, ((ab, tt), (B.1.0, (tt, tt)))), omega arith))

  pub three-disjoint : HasApart g.rules d 3 → HasThreeDisjoint (rules_of g.rules) d
  three-disjoint H = at H.0 H.1.0 H.1.1
    where
      at : (ns : List NodePair) → OccurApart g.rules d ns → 3 ≤ length ns → HasThreeDisjoint (rules_of g.rules) d
      at [] O l = absurd (omega arith)
      at (m ∷ []) O l = absurd (omega arith)
      at (m ∷ n ∷ []) O l = absurd (omega arith)
      at (m ∷ n ∷ o ∷ ns) O l =
          let A = plain-occurs g K d m O.0 in
          let B = plain-occurs g K d n O.1.1.0 in
          let C = plain-occurs g K d o O.1.1.1.1.0 in
          record {
            first = A.0;
            second = B.0;
            third = C.0;
            occurs_first = A.1.0;
            occurs_second = B.1.0;
            occurs_third = C.1.0;
            first_second = apart-disjoint g.rules A.0 B.0 m n A.1.1 B.1.1 O.1.0.0;
            first_third = apart-disjoint g.rules A.0 C.0 m o A.1.1 C.1.1 O.1.0.1.0;
            second_third = apart-disjoint g.rules B.0 C.0 n o B.1.1 C.1.1 O.1.1.1.0.0;
          }

  pub three-apart : HasThreeDisjoint (rules_of g.rules) d → HasApart g.rules d 3
  three-apart H =
      let A = keyed-occurs g K d H.first H.occurs_first in
      let B = keyed-occurs g K d H.second H.occurs_second in
      let C = keyed-occurs g K d H.third H.occurs_third in
      let ab = disjoint-apart g K H.first H.second A.0 B.0 A.1.1 B.1.1 H.first_second in
      let ac = disjoint-apart g K H.first H.third A.0 C.0 A.1.1 C.1.1 H.first_third in
      let bc = disjoint-apart g K H.second H.third B.0 C.0 B.1.1 C.1.1 H.second_third in
      (A.0 ∷ B.0 ∷ C.0 ∷ [], ((A.1.0, ((ab, (ac, tt)), (B.1.0, ((bc, tt), (C.1.0, (tt, tt)))))), omega arith))

-- of three occurrences that share no node, two share none
pub two-of-three : (G : List Rule) (d : Digram) → HasThreeDisjoint G d → HasTwoDisjoint G d
two-of-three G d H = record { first = H.first; second = H.second; occurs_first = H.occurs_first; occurs_second = H.occurs_second; first_second = H.first_second }

-- what is said of an answer in other words
pub some-then : {T : Type 0} (P Q : T → Type 0) (o : Option T) → ((d : T) → P d → Q d) → IfSome o P → IfSome o Q
some-then P Q None f h = tt
some-then P Q (Some d) f h = f d h

pub none-then : {T : Type 0} (P Q : Type 0) (o : Option T) → (P → Q) → IfNone o P → IfNone o Q
none-then P Q None f h = f h
none-then P Q (Some d) f h = tt
