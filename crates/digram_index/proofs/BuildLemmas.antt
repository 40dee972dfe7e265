-- Nodes that are linked one after another.
use Rattle.std.proofs.Common.{◌≡◌, ◌≢◌, ◌<◌, ◌≤◌, ◌+◌, ◌⊎◌, inl, inr, ℕ, zero, suc, List, [], ◌∷◌, length, Option, Some, None, IsSome, slice_get, Bool, true, false, MatchBool, refl, ap, sym, ◌∙◌, subst, arith}
use Rattle.std.proofs.lemmas.Bool.{cases_eq, cases_lt}
use Rattle.std.proofs.lemmas.List.{length-map}
use Rattle.std.proofs.lemmas.List.Sums.{sum_by-cons}
use Rattle.rule_arena.specs.Terms.{Node, parent_in, key_in}
use Rattle.rule_arena.specs.declared.key.Key.{Key}
use Rattle.rule_arena.specs.declared.label.Label.{Label}
use Rattle.slt_grammar.specs.Names.{Bottom, Symbol, Call, Param}
use Rattle.slt_grammar.specs.Algebras.{ranks_of}
use Rattle.slt_grammar.specs.Grammars.{whole}
use Rattle.slt_grammar.specs.Keyed.{Keyed, KeyedRule, IsKeyed, rules_of, labels_of, nodes_at, key_at}
use Rattle.slt_grammar.specs.declared.rules.Rule.{Rule}
use Rattle.slt_grammar.proofs.KeyedLemmas.{key_at-within}
use Rattle.digram_index.specs.Digrams.{Cell, OccursAt, parent_node, occurrence_under, occurrence_below, occurrence_at}
use Rattle.digram_index.specs.Linked.{Linked, IsIndexOf, cell}
use Rattle.digram_index.specs.Marking.{MarksFewer}
use Rattle.digram_index.specs.Building.{IsNumberIn, IsLinking, IsUnlinking, IsBuilt, IsBuilding, IsClearing, nodes_before}
use Rattle.digram_index.proofs.ParentLemmas.{keyed_place, parent-key}
use Rattle.digram_index.proofs.LevelLemmas.{same_some}
use Rattle.digram_index.proofs.Apartness.{one-key}
use Rattle.digram_index.proofs.Numbered.{fewer-both, fewer-same}

under-some : (ranks : List ℕ) (up : Node) (c : ℕ) (l : Label) → l ≢ Param → (o : Cell) × (occurrence_under ranks up c l ≡ Some o)
under-some ranks up c Bottom n = (_, refl)
under-some ranks up c (Symbol f) n = (_, refl)
under-some ranks up c (Call q) n = (_, refl)
under-some ranks up c Param n = absurd (n refl)

-- a node with a parent that is no parameter is a lower node
pub lower-some : (G : List KeyedRule) (r p : ℕ) (n : Node) (parent : Option (Key × ℕ)) → slice_get (nodes_at G r) p ≡ Some n → parent_in (nodes_at G r) p ≡ parent → IsSome parent → n.label ≢ Param → (o : Cell) × (occurrence_at G r p ≡ Some o)
lower-some G r p n parent h q s l = at (parent_node (nodes_at G r) p) refl
  where
    at : (u : Option (Node × ℕ)) → parent_node (nodes_at G r) p ≡ u → (o : Cell) × (occurrence_at G r p ≡ Some o)
    at None e = absurd (let z : IsSome {T = Key × ℕ} None = subst (λ (x : Option (Key × ℕ)). IsSome x) (sym q ∙ parent-key (nodes_at G r) p ∙ ap keyed_place e) s in cc)
    at (Some u) e =
        let U = under-some (ranks_of (rules_of G)) u.0 u.1 n.label l in
        (U.0, ap (λ v. occurrence_below (ranks_of (rules_of G)) v (slice_get (nodes_at G r) p)) e ∙ ap (λ v. occurrence_below (ranks_of (rules_of G)) (Some u) v) h ∙ U.1)

-- a root and a parameter are none
none-lower : (G : List KeyedRule) (r p : ℕ) (n : Node) (parent : Option (Key × ℕ)) → slice_get (nodes_at G r) p ≡ Some n → parent_in (nodes_at G r) p ≡ parent → (parent ≡ None) ⊎ (n.label ≡ Param) → occurrence_at G r p ≡ None
none-lower G r p n parent h q s = at (parent_node (nodes_at G r) p) refl s
  where
    at : (u : Option (Node × ℕ)) → parent_node (nodes_at G r) p ≡ u → (parent ≡ None) ⊎ (n.label ≡ Param) → occurrence_at G r p ≡ None
    at None e s = ap (λ v. occurrence_below (ranks_of (rules_of G)) v (slice_get (nodes_at G r) p)) e
    at (Some u) e (inl x) = absurd (let z : None ≡ Some (u.0.key, u.1) = sym x ∙ sym q ∙ parent-key (nodes_at G r) p ∙ ap keyed_place e in cc)
    at (Some u) e (inr x) =
        ap (λ v. occurrence_below (ranks_of (rules_of G)) v (slice_get (nodes_at G r) p)) e ∙ ap (λ v. occurrence_below (ranks_of (rules_of G)) (Some u) v) h ∙ ap (occurrence_under (ranks_of (rules_of G)) u.0 u.1) x

-- what is told of a node says whether it is a lower node
pub lower-told : (G : List KeyedRule) (key : Key) (label : Label) (kids : ℕ) (parent : Option (Key × ℕ)) (b : Bool) → (r : ℕ) × ((p : ℕ) × (key_at G r p ≡ Some key))
    → ((r p : ℕ) → key_at G r p ≡ Some key → slice_get (nodes_at G r) p ≡ Some (record { key = key; label = label; kids = kids }))
    → ((r p : ℕ) → key_at G r p ≡ Some key → parent_in (nodes_at G r) p ≡ parent)
    → MatchBool b (IsSome parent × (label ≢ Param)) ((parent ≡ None) ⊎ (label ≡ Param))
    → MatchBool b ((o : Cell) × OccursAt G key o) ((r p : ℕ) → key_at G r p ≡ Some key → occurrence_at G r p ≡ None)
lower-told G key label kids parent true (r, (p, k)) node par m =
    let o = lower-some G r p (record { key = key; label = label; kids = kids }) parent (node r p k) (par r p k) m.0 m.1 in
    (o.0, record { rule = r; place = p; there = k; here = o.1 })
lower-told G key label kids parent false w node par m = λ r p k. none-lower G r p (record { key = key; label = label; kids = kids }) parent (node r p k) (par r p k) m

-- a lower node that was linked is right at its place
pub linked-told : (g : Keyed) → IsKeyed g → (key : Key) (I : Linked) (o : Cell) (O : OccursAt g.rules key o) → cell I key.number ≡ Some o → (r p : ℕ) → key_at g.rules r p ≡ Some key → cell I key.number ≡ occurrence_at g.rules r p
linked-told g K key I o O c r p k =
    let w = K.once key O.rule O.place r p O.there k in
    c ∙ sym O.here ∙ ap (λ s. occurrence_at g.rules s O.place) w.0 ∙ ap (λ q. occurrence_at g.rules r q) w.1

key-apart : (g : Keyed) → IsKeyed g → (r p s q : ℕ) (key m : Key) → key_at g.rules r p ≡ Some key → key_at g.rules s q ≡ Some m → key.number ≡ m.number → (r ≡ s) × (p ≡ q)
key-apart g K r p s q key m a b e = K.once key r p s q a (b ∙ ap Some (sym (one-key key m e)))

-- one node more
pub linking-next : (g : Keyed) → IsKeyed g → (r : ℕ) (key : Key) (next : Option Key) (old now new : Linked) (begin n : ℕ) → IsLinking g.rules r (Some key) old now begin n
    → ((s q : ℕ) → key_at g.rules s q ≡ Some key → key_at g.rules s (q + 1) ≡ next)
    → ((s q : ℕ) → key_at g.rules s q ≡ Some key → cell new key.number ≡ occurrence_at g.rules s q)
    → ((k : ℕ) → k ≢ key.number → cell new k ≡ cell now k) → new.rules ≡ now.rules
    → length now.cells ≤ length new.cells → (now.spare_links ≤ new.spare_links + 1) × (new.spare_rules ≡ now.spare_rules) → MarksFewer now new
    → IsLinking g.rules r next old new begin (n + 1)
linking-next g K r key next old now new begin n L N linked others rules room spare fewer = record {
  place = L.place + 1;
  there = N r L.place L.there;
  done = λ p m h k. done' p m h k (cases_eq p L.place);
  todo = λ p m h k. others m.number (λ e. let w = key-apart g K r p r L.place m key k L.there e in let z = w.1 in omega arith) ∙ L.todo p m (omega arith) k;
  others = λ k x. others k (λ e. x (L.place, (key, (L.there, sym e)))) ∙ L.others k x;
  only = λ k x. only' k x (cases_eq k key.number);
  rules = rules ∙ L.rules;
  room = let z = L.room in omega arith;
  spare = let z = L.spare in let w = spare.0 in omega arith;
  spare_rules = spare.1 ∙ L.spare_rules;
  within = let w = key_at-within g.rules r L.place key L.there in omega (arith, w.1);
  counted = let c = L.counted in omega arith;
  marks = fewer-both old now new L.marks fewer;
}
  where
    done' : (p : ℕ) (m : Key) → p < L.place + 1 → key_at g.rules r p ≡ Some m → (p ≡ L.place) ⊎ (p ≡ L.place → ⊥) → cell new m.number ≡ occurrence_at g.rules r p
    done' p m h k (inl e) =
        let z = same_some m key (sym k ∙ ap (λ q. key_at g.rules r q) e ∙ L.there) in
        ap (λ (x : Key). cell new x.number) z ∙ linked r L.place L.there ∙ ap (λ q. occurrence_at g.rules r q) (sym e)
    done' p m h k (inr e) = others m.number (λ x. e (key-apart g K r p r L.place m key k L.there x).1) ∙ L.done p m (omega arith) k

    only' : (k : ℕ) → cell new k ≢ None → (k ≡ key.number) ⊎ (k ≡ key.number → ⊥) → (cell old k ≢ None) ⊎ IsNumberIn g.rules r k
    only' k x (inl e) = inr (L.place, (key, (L.there, sym e)))
    only' k x (inr e) = L.only k (λ z. x (others k e ∙ z))

-- behind the last node all are linked
pub linking-ends : (G : List KeyedRule) (r : ℕ) (old new : Linked) (begin n : ℕ) (L : IsLinking G r None old new begin n) (p : ℕ) (key : Key) → key_at G r p ≡ Some key → cell new key.number ≡ occurrence_at G r p
linking-ends G r old new begin n L p key k = L.done p key (before (cases_lt p L.place)) k
  where
    in-front : (ns : List Node) (a b : ℕ) (x : Key) → key_in ns a ≡ None → a ≤ b → key_in ns b ≡ Some x → ⊥
    in-front [] a b x e h f = let z : None ≡ Some x = f in cc
    in-front (m ∷ ns) zero b x e h f = let z : Some m.key ≡ None = e in cc
    in-front (m ∷ ns) (suc a) zero x e h f = omega arith
    in-front (m ∷ ns) (suc a) (suc b) x e h f = in-front ns a b x e (omega arith) f

    before : (p < L.place) ⊎ (L.place ≤ p) → p < L.place
    before (inl h) = h
    before (inr h) = absurd (in-front (nodes_at G r) L.place p key L.there h k)

-- one node fewer
pub unlinking-next : (g : Keyed) → IsKeyed g → (r : ℕ) (key : Key) (next : Option Key) (old now new : Linked) (begin n : ℕ) → IsUnlinking g.rules r (Some key) old now begin n
    → ((s q : ℕ) → key_at g.rules s q ≡ Some key → key_at g.rules s (q + 1) ≡ next)
    → cell new key.number ≡ None → ((k : ℕ) → k ≢ key.number → cell new k ≡ cell now k) → new.rules ≡ now.rules
    → length new.cells ≡ length now.cells → (new.spare_links ≡ now.spare_links) × (new.spare_rules ≡ now.spare_rules) → MarksFewer now new
    → IsUnlinking g.rules r next old new begin (n + 1)
unlinking-next g K r key next old now new begin n L N free others rules room spares fewer = record {
  place = L.place + 1;
  there = N r L.place L.there;
  done = λ p m h k. done' p m h k (cases_eq p L.place);
  others = λ k x. others k (λ e. x (L.place, (key, (L.there, sym e)))) ∙ L.others k x;
  rules = rules ∙ L.rules;
  room = room ∙ L.room;
  spare = spares.0 ∙ L.spare;
  spare_rules = spares.1 ∙ L.spare_rules;
  counted = let c = L.counted in omega arith;
  marks = fewer-both old now new L.marks fewer;
}
  where
    done' : (p : ℕ) (m : Key) → p < L.place + 1 → key_at g.rules r p ≡ Some m → (p ≡ L.place) ⊎ (p ≡ L.place → ⊥) → cell new m.number ≡ None
    done' p m h k (inl e) = ap (λ (x : Key). cell new x.number) (same_some m key (sym k ∙ ap (λ q. key_at g.rules r q) e ∙ L.there)) ∙ free
    done' p m h k (inr e) = others m.number (λ x. e (key-apart g K r p r L.place m key k L.there x).1) ∙ L.done p m (omega arith) k

pub unlinking-ends : (G : List KeyedRule) (r : ℕ) (old new : Linked) (begin n : ℕ) (L : IsUnlinking G r None old new begin n) (p : ℕ) (key : Key) → key_at G r p ≡ Some key → cell new key.number ≡ None
unlinking-ends G r old new begin n L p key k = L.done p key (before (cases_lt p L.place)) k
  where
    in-front : (ns : List Node) (a b : ℕ) (x : Key) → key_in ns a ≡ None → a ≤ b → key_in ns b ≡ Some x → ⊥
    in-front [] a b x e h f = let z : None ≡ Some x = f in cc
    in-front (m ∷ ns) zero b x e h f = let z : Some m.key ≡ None = e in cc
    in-front (m ∷ ns) (suc a) zero x e h f = omega arith
    in-front (m ∷ ns) (suc a) (suc b) x e h f = in-front ns a b x e (omega arith) f

    before : (p < L.place) ⊎ (L.place ≤ p) → p < L.place
    before (inl h) = h
    before (inr h) = absurd (in-front (nodes_at G r) L.place p key L.there h k)

-- one rule more
pub built-next : (g : Keyed) → IsKeyed g → (r : ℕ) (now new : Linked) → IsBuilt g.rules r now
    → ((p : ℕ) (key : Key) → key_at g.rules r p ≡ Some key → cell new key.number ≡ occurrence_at g.rules r p)
    → ((k : ℕ) → (IsNumberIn g.rules r k → ⊥) → cell new k ≡ cell now k)
    → ((k : ℕ) → cell new k ≢ None → (cell now k ≢ None) ⊎ IsNumberIn g.rules r k) → new.rules ≡ now.rules
    → IsBuilt g.rules (r + 1) new
built-next g K r now new B linked others only rules = record {
  rules = rules ∙ B.rules;
  done = λ s p key h k. done' s p key h k (cases_eq s r);
  todo = λ s p key h k. others key.number (apart s p key k (λ e. omega arith)) ∙ B.todo s p key (omega arith) k;
  only = λ k x. only' k (only k x);
}
  where
    apart : (s p : ℕ) (key : Key) → key_at g.rules s p ≡ Some key → s ≢ r → IsNumberIn g.rules r key.number → ⊥
    apart s p key k n (q, (m, (a, e))) = n (key-apart g K s p r q key m k a (sym e)).0

    done' : (s p : ℕ) (key : Key) → s < r + 1 → key_at g.rules s p ≡ Some key → (s ≡ r) ⊎ (s ≡ r → ⊥) → cell new key.number ≡ occurrence_at g.rules s p
    done' s p key h k (inl e) = linked p key (ap (λ x. key_at g.rules x p) (sym e) ∙ k) ∙ ap (λ x. occurrence_at g.rules x p) (sym e)
    done' s p key h k (inr e) = others key.number (apart s p key k e) ∙ B.done s p key (omega arith) k

    only' : (k : ℕ) → (cell now k ≢ None) ⊎ IsNumberIn g.rules r k → (s : ℕ) × IsNumberIn g.rules s k
    only' k (inl x) = B.only k x
    only' k (inr x) = (r, x)

pub built-index : (g : Keyed) (r : ℕ) (I : Linked) → IsBuilt g.rules r I → length g.rules ≤ r → IsIndexOf g I
built-index g r I B h = record {
  rules = B.rules;
  all = λ s p key k. B.done s p key (let w = key_at-within g.rules s p key k in omega (arith, w.0)) k;
  only = λ k x. let w = B.only k x in (w.1.1.0, (w.0, (w.1.0, (w.1.1.1.0, w.1.1.1.1))));
}

pub none-left : (o : Option Cell) → (o ≢ None → ⊥) → o ≡ None
none-left None h = refl
none-left (Some c) h = absurd (h (λ e. let z : Some c ≡ None = e in cc))

pub building-begins : (G : List KeyedRule) (I : Linked) → I.rules ≡ length G → ((k : ℕ) → cell I k ≡ None) → IsBuilding G 0 I I
building-begins G I rules free = record {
  built = record { rules = rules; done = λ r p key h k. absurd (omega arith); todo = λ r p key h k. free key.number; only = λ k x. absurd (x (free k)) };
  room = omega arith;
  spare = omega arith;
  marks = fewer-same I;
}

before-next : (G : List KeyedRule) (r : ℕ) → nodes_before G (suc r) ≡ nodes_before G r + length (nodes_at G r)
before-next [] r = refl
before-next (R ∷ []) zero = omega arith
before-next (R ∷ (S ∷ G)) zero = omega arith
before-next (R ∷ G) (suc r) = let z = before-next G r in omega arith

whole-next : (R : KeyedRule) (G : List KeyedRule) → whole (rules_of (R ∷ G)) ≡ length R.nodes + whole (rules_of G)
whole-next R G =
    let n = length-map R.nodes (λ (m : Node). m.label) in
    let s = sum_by-cons (λ (S : Rule). length S.body) (record { rank = R.rank; body = labels_of R.nodes }) (rules_of G) in
    s ∙ ap (λ k. k + whole (rules_of G)) n

pub before-few : (G : List KeyedRule) (r : ℕ) → nodes_before G r + length (nodes_at G r) ≤ whole (rules_of G)
before-few [] r = omega arith
before-few (R ∷ G) zero = let z = whole-next R G in omega arith
before-few (R ∷ G) (suc r) = let z = whole-next R G in let w = before-few G r in omega arith

-- one rule more, with room
pub building-next : (g : Keyed) → IsKeyed g → (r : ℕ) (old now new : Linked) → IsBuilding g.rules r old now
    → ((p : ℕ) (key : Key) → key_at g.rules r p ≡ Some key → cell new key.number ≡ occurrence_at g.rules r p)
    → ((k : ℕ) → (IsNumberIn g.rules r k → ⊥) → cell new k ≡ cell now k)
    → ((k : ℕ) → cell new k ≢ None → (cell now k ≢ None) ⊎ IsNumberIn g.rules r k) → new.rules ≡ now.rules
    → length now.cells ≤ length new.cells → now.spare_links ≤ new.spare_links + length (nodes_at g.rules r) → MarksFewer now new
    → IsBuilding g.rules (r + 1) old new
building-next g K r old now new B linked others only rules room spare fewer = record {
  built = built-next g K r now new B.built linked others only rules;
  room = let z = B.room in omega arith;
  spare =
      let z = B.spare in
      let w = before-next g.rules r in
      let e : nodes_before g.rules (r + 1) ≡ nodes_before g.rules (suc r) = ap (nodes_before g.rules) (let y : r + 1 ≡ suc r = omega arith in y) in
      omega arith;
  marks = fewer-both old now new B.marks fewer;
}

pub clearing-begins : (g : Keyed) (I : Linked) → IsIndexOf g I → IsClearing g.rules 0 I I
clearing-begins g I A = record {
  left = λ k x. let w = A.only k x in (w.1.0, (omega arith, (w.1.1.0, (w.0, (w.1.1.1.0, w.1.1.1.1)))));
  rules = refl;
  room = refl;
  spare = refl;
  spare_rules = refl;
  marks = fewer-same I;
}

-- one rule fewer
pub clearing-next : (G : List KeyedRule) (r : ℕ) (old now new : Linked) → IsClearing G r old now
    → ((p : ℕ) (key : Key) → key_at G r p ≡ Some key → cell new key.number ≡ None)
    → ((k : ℕ) → (IsNumberIn G r k → ⊥) → cell new k ≡ cell now k) → new.rules ≡ now.rules
    → length new.cells ≡ length now.cells → (new.spare_links ≡ now.spare_links) × (new.spare_rules ≡ now.spare_rules) → MarksFewer now new
    → IsClearing G (r + 1) old new
clearing-next G r old now new C free others rules room spares fewer = record {
  left = λ k x.
      let far = λ (n : IsNumberIn G r k). x (gone k n) in
      let w = C.left k (λ z. x (others k far ∙ z)) in
      (w.0, (later k far w.0 w.1.0 w.1.1 (cases_eq w.0 r), w.1.1));
  rules = rules ∙ C.rules;
  room = room ∙ C.room;
  spare = spares.0 ∙ C.spare;
  spare_rules = spares.1 ∙ C.spare_rules;
  marks = fewer-both old now new C.marks fewer;
}
  where
    gone : (k : ℕ) → IsNumberIn G r k → cell new k ≡ None
    gone k (p, (key, (a, b))) = ap (cell new) (sym b) ∙ free p key a

    later : (k : ℕ) → (IsNumberIn G r k → ⊥) → (s : ℕ) → r ≤ s → IsNumberIn G s k → (s ≡ r) ⊎ (s ≡ r → ⊥) → r + 1 ≤ s
    later k far s h n (inl e) = absurd (far (subst (λ t. IsNumberIn G t k) e n))
    later k far s h n (inr e) = omega arith

pub clearing-ends : (G : List KeyedRule) (r : ℕ) (old new : Linked) → IsClearing G r old new → length G ≤ r → (k : ℕ) → cell new k ≡ None
clearing-ends G r old new C h k = none-left (cell new k) (λ x.
    let w = C.left k x in
    let t = key_at-within G w.0 w.1.1.0 w.1.1.1.0 w.1.1.1.1.0 in
    let l = w.1.0 in
    omega (arith, t.0))
