-- What is read of an occurrence.
use Rattle.std.proofs.Common.{◌≡◌, ◌<◌, ◌≤◌, ℕ, zero, suc, List, [], ◌∷◌, length, get_or, Option, Some, None, slice_get, refl, ap, sym, ◌∙◌, subst, arith}
use Rattle.rule_arena.specs.Terms.{Node, kids_in, parent_in}
use Rattle.rule_arena.specs.declared.key.Key.{Key}
use Rattle.rule_arena.specs.declared.label.Label.{Label}
use Rattle.rule_arena.specs.declared.label.Label.TheVariants.{Bottom, Symbol, Call, Param}
use Rattle.rule_arena.proofs.NodeLemmas.{key_of_node}
use Rattle.slt_grammar.specs.Algebras.{ranks_of}
use Rattle.slt_grammar.specs.Bodies.{CallsBelow}
use Rattle.slt_grammar.specs.Grammars.{IsGrammar, rank_at, body_at}
use Rattle.slt_grammar.specs.Keyed.{Keyed, IsKeyed, KeyedRule, rules_of, nodes_at, key_at}
use Rattle.slt_grammar.specs.declared.rules.Rule.{Rule}
use Rattle.slt_grammar.proofs.KeyedLemmas.{label-there, nodes-are-term, key_at-within, length-rules_of}
use Rattle.digram_index.specs.Digrams.{Cell, parent_node, joint_rank, occurrence_under, occurrence_below, occurrence_at}
use Rattle.rule_arena.proofs.ChildLemmas.{length-kids}
use Rattle.std.proofs.lemmas.Option.{slice_get_within}
use Rattle.digram_index.proofs.Kids.{child-of}
use Rattle.digram_index.proofs.ParentLemmas.{keyed_place, parent-key, parent-there}

pub rank-arity : (G : List Rule) (q : ℕ) → get_or (ranks_of G) q 0 ≡ rank_at G q
rank-arity [] q = refl
rank-arity (R ∷ G) zero = refl
rank-arity (R ∷ G) (suc q) = rank-arity G q

-- an occurrence as it is read
pub record IsRead (G : List KeyedRule) (r : ℕ) (label : Label) (parent : Option (Key × ℕ)) (o : Cell) : Type 0 where
  pub up : Node
  pub child : ℕ
  pub place : ℕ
  pub above : parent ≡ Some (up.key, child)
  pub key : key_at G r place ≡ Some up.key
  pub node : slice_get (nodes_at G r) place ≡ Some up
  pub told : o ≡ record { digram = record { upper = up.label; place = child; lower = label }; rank = joint_rank (ranks_of (rules_of G)) up.label label; upper = up.key.number }

-- a node that is an occurrence's lower node is no parameter
pub under-is : (ranks : List ℕ) (up : Node) (c : ℕ) (l : Label) (o : Cell) → occurrence_under ranks up c l ≡ Some o → o ≡ record { digram = record { upper = up.label; place = c; lower = l }; rank = joint_rank ranks up.label l; upper = up.key.number }
under-is ranks up c Bottom o e = same _ o e
  where
    same : (a b : Cell) → Some a ≡ Some b → b ≡ a
    same a b q = let z : a ≡ b = cc in sym z
under-is ranks up c (Symbol f) o e = same _ o e
  where
    same : (a b : Cell) → Some a ≡ Some b → b ≡ a
    same a b q = let z : a ≡ b = cc in sym z
under-is ranks up c (Call q) o e = same _ o e
  where
    same : (a b : Cell) → Some a ≡ Some b → b ≡ a
    same a b q = let z : a ≡ b = cc in sym z
under-is ranks up c Param o e = absurd (let z : None ≡ Some o = e in cc)

pub reads : (G : List KeyedRule) (r p : ℕ) (o : Cell) (n : Node) (parent : Option (Key × ℕ)) → occurrence_at G r p ≡ Some o → slice_get (nodes_at G r) p ≡ Some n → parent_in (nodes_at G r) p ≡ parent → IsRead G r n.label parent o
reads G r p o n parent here node par = at (parent_node (nodes_at G r) p) refl
  where
    at : (u : Option (Node × ℕ)) → parent_node (nodes_at G r) p ≡ u → IsRead G r n.label parent o
    at None e = absurd (let z : None ≡ Some o = sym (ap (λ u. occurrence_below (ranks_of (rules_of G)) u (slice_get (nodes_at G r) p)) e) ∙ here in cc)
    at (Some u) e =
        let t = parent-there (nodes_at G r) p u e in
        let z : occurrence_under (ranks_of (rules_of G)) u.0 u.1 n.label ≡ Some o = sym (ap (λ v. occurrence_below (ranks_of (rules_of G)) v (slice_get (nodes_at G r) p)) e ∙ ap (λ v. occurrence_below (ranks_of (rules_of G)) (Some u) v) node) ∙ here in
        record {
          up = u.0;
          child = u.1;
          place = t.0;
          above = sym par ∙ parent-key (nodes_at G r) p ∙ ap keyed_place e;
          key = key_of_node (nodes_at G r) t.0 u.0 t.1.1;
          node = t.1.1;
          told = under-is (ranks_of (rules_of G)) u.0 u.1 n.label o z;
        }

-- calls are of rules that are there
calls-below : (ls : List Label) (n p q : ℕ) → CallsBelow n ls → slice_get ls p ≡ Some (Call q) → q < n
calls-below [] n p q C e = absurd (cc)
calls-below (Bottom ∷ ls) n zero q C e = absurd (let z : Some Bottom ≡ Some (Call q) = e in cc)
calls-below (Symbol f ∷ ls) n zero q C e = absurd (let z : Some (Symbol f) ≡ Some (Call q) = e in cc)
calls-below (Call m ∷ ls) n zero q C e = let z : Some (Call m) ≡ Some (Call q) = e in let w : m ≡ q = cc in subst (λ k. k < n) w C.0
calls-below (Param ∷ ls) n zero q C e = absurd (let z : Some Param ≡ Some (Call q) = e in cc)
calls-below (Bottom ∷ ls) n (suc p) q C e = calls-below ls n p q C e
calls-below (Symbol f ∷ ls) n (suc p) q C e = calls-below ls n p q C e
calls-below (Call m ∷ ls) n (suc p) q C e = calls-below ls n p q C.1 e
calls-below (Param ∷ ls) n (suc p) q C e = calls-below ls n p q C e

pub call-there : (G : List KeyedRule) → IsGrammar (rules_of G) → (r p q : ℕ) (key : Key) (n : Node) → key_at G r p ≡ Some key → slice_get (nodes_at G r) p ≡ Some n → n.label ≡ Call q → q < length G
call-there G I r p q key n k node e =
    let w = key_at-within G r p key k in
    let l = length-rules_of G in
    let b = calls-below (body_at (rules_of G) r) r p q (I.each r (omega arith)).earlier (label-there G r p n node ∙ ap Some e) in
    omega arith

-- the parent that was told
pub up-pair : (k : Key) (child : ℕ) (v : Key × ℕ) (parent : Option (Key × ℕ)) → parent ≡ Some (k, child) → parent ≡ Some v → let u : Key × ℕ = (k, child) in u ≡ v
up-pair k child v parent a b = let u : Key × ℕ = (k, child) in same u v (sym a ∙ b)
  where
    same : (x y : Key × ℕ) → Some x ≡ Some y → x ≡ y
    same x y q = cc

pub up-key : (G : List KeyedRule) (r q : ℕ) (k : Key) (child : ℕ) (v : Key × ℕ) (parent : Option (Key × ℕ)) → parent ≡ Some (k, child) → parent ≡ Some v → key_at G r q ≡ Some k → key_at G r q ≡ Some v.0
up-key G r q k child v parent a b e = e ∙ ap (λ (u : Key × ℕ). Some u.0) (up-pair k child v parent a b)

pub up-label : (ns : List Node) (q : ℕ) (m n : Node) → slice_get ns q ≡ Some m → slice_get ns q ≡ Some n → m.label ≡ n.label
up-label ns q m n a b = let z : Some m ≡ Some n = sym a ∙ b in let w : m ≡ n = cc in ap (λ (x : Node). x.label) w

-- a node's place under its parent is one of the parent's children
pub place-few : (g : Keyed) → IsKeyed g → (r p : ℕ) (key : Key) (v : Key × ℕ) (l : Label) (n : ℕ) → key_at g.rules r p ≡ Some key → parent_in (nodes_at g.rules r) p ≡ Some v → n ≤ 8
    → ((q : ℕ) → key_at g.rules r q ≡ Some v.0 → slice_get (nodes_at g.rules r) q ≡ Some (record { key = v.0; label = l; kids = n })) → v.1 ≤ 8
place-few g K r p key v l n there above few node =
    let ns = nodes_at g.rules r in
    let t = nodes-are-term g K r (key_at-within g.rules r p key there).0 in
    let C = child-of ns p v t above in
    let w = slice_get_within (kids_in ns C.above) C.child key (C.is_child ∙ there) in
    let k = length-kids 1 ns C.above (record { key = v.0; label = l; kids = n }) t (node C.above C.there) in
    let e = C.place in
    omega (arith, w, k, e, few)
