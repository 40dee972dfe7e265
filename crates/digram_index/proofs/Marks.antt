-- Marks of an index through changes of its grammar.
use Rattle.std.proofs.Common.{◌≡◌, ◌≢◌, ◌⊎◌, inl, inr, ℕ, zero, suc, ◌+◌, List, [], ◌∷◌, ◌++◌, All, true, false, drop, get_or, length, map, Some, None, IsTrue, refl, sym, ap, ◌∙◌, arith, append_assoc}
use Rattle.rule_arena.specs.Preorder.{span}
use Rattle.rule_arena.specs.Terms.{Node, key_in, key_of, kids_of}
use Rattle.rule_arena.specs.declared.key.Key.{Key}
use Rattle.rule_arena.specs.declared.label.Label.{Label}
use Rattle.rule_arena.specs.declared.label.Label.TheVariants.{Bottom, Symbol, Call, Param}
use Rattle.slt_grammar.specs.Calling.{BeginsWith}
use Rattle.slt_grammar.specs.Copying.{copied, copied_node, hole}
use Rattle.slt_grammar.specs.Grammars.{value_at}
use Rattle.slt_grammar.specs.Keyed.{KeyedRule, nodes_at, rules_of}
use Rattle.start_fronts.specs.Before.{KeepsBefore, copied_keys}
use Rattle.digram_index.specs.Calls.{IsOfBody}
use Rattle.digram_index.specs.Copies.{Meets, width}
use Rattle.digram_index.specs.Linked.{Linked, cell, is_marked}
use Rattle.digram_index.specs.Marking.{KeepsMarked, KeepsRules, MarksFewer, MarksNoMore}
use Rattle.digram_index.proofs.BodyUnlinks.{take-drop}
use Rattle.digram_index.proofs.CopyLinks.{key-drop}
use Rattle.digram_index.proofs.Numbered.{fewer-both, rules-still, rules-then, rules-valued}

-- while the grammar is the same
pub keeps-still : (G : List KeyedRule) (I J : Linked) → MarksFewer I J → KeepsMarked G I G J
keeps-still G I J fewer = record { fewer = fewer.fewer; stays = λ key place there m. record { now = place; there = there; same = refl }; rules = rules-still G I J fewer }

-- one change after another
pub keeps-then : (G H K : List KeyedRule) (I J L : Linked) → KeepsMarked G I H J → KeepsMarked H J K L → KeepsMarked G I K L
keeps-then G H K I J L a b = record {
  fewer = λ k m. a.fewer k (b.fewer k m);
  stays = λ key place there m.
      let s = a.stays key place there (b.fewer key.number m) in
      let t = b.stays key s.now s.there m in
      record { now = t.now; there = t.there; same = t.same ∙ s.same };
  rules = rules-then G H K I J L a.rules b.rules;
}

-- a change that keeps what stands before all nodes but those that aren't marked any more
pub keeps-by : (gone : List Key) (G H : List KeyedRule) (I J : Linked) → KeepsBefore gone G H → MarksNoMore I J → All (λ k. IsTrue (is_marked J k.number) → ⊥) gone → KeepsRules G I H J → KeepsMarked G I H J
keeps-by gone G H I J keeps fewer none rules = record {
  fewer = fewer;
  stays = λ key place there m. keeps key place there (λ i d h e. none i d h (ap (λ (k : Key). is_marked J k.number) e ∙ m));
  rules = rules;
}

-- the same where they were unlinked before, and no value changes
pub keeps-unlinked : (gone : List Key) (G H : List KeyedRule) (I mid J : Linked) → KeepsBefore gone G H → MarksFewer I mid → MarksFewer mid J → All (λ k. IsTrue (is_marked mid k.number) → ⊥) gone
    → length H ≡ length G → ((r : ℕ) → value_at (rules_of H) r ≡ value_at (rules_of G) r) → KeepsMarked G I H J
keeps-unlinked gone G H I mid J keeps first second none many values =
    let both = fewer-both I mid J first second in
    keeps-by gone G H I J keeps both.fewer (λ i d h m. none i d h (second.fewer (get_or gone i d).number m)) (rules-valued G H I J both many values)

pub all-none : {X : Type 0} (P : X → Type 0) → All P []
all-none P i d h = absurd (omega (arith, h))

pub all-more : {X : Type 0} (P : X → Type 0) (x : X) (xs : List X) → P x → All P xs → All P (x ∷ xs)
all-more P x xs p a zero d h = p
all-more P x xs p a (suc i) d h = a i d (omega (arith, h))

key-behind : (xs ys : List Node) (t : ℕ) → key_in (xs ++ ys) (length xs + t) ≡ key_in ys t
key-behind [] ys t = let z : zero + t ≡ t = omega arith in ap (λ (k : ℕ). key_in ys k) z
key-behind (x ∷ xs) ys t = let z : suc (length xs) + t ≡ suc (length xs + t) = omega arith in ap (λ (k : ℕ). key_in (x ∷ (xs ++ ys)) k) z ∙ key-behind xs ys t

-- a walk over a copy meets each of the copied nodes
met-keys : (P : Key → Type 0) (ns : List Node) (given : List (List Node)) (keys : List Key) (back : List Node) → ((t : ℕ) (key : Key) → Meets ns given t → key_in (copied ns given keys ++ back) t ≡ Some key → P key)
    → All P (map key_of (copied ns [] keys))
met-keys P [] given keys back f = all-none P
met-keys P (n ∷ ns) given keys back f = at n.label f (λ gs h. met-keys P ns gs (drop 1 keys) back h)
  where
    at : (l : Label) → ((t : ℕ) (key : Key) → (t ≡ 0) ⊎ ((u : ℕ) × ((t ≡ width l given + u) × Meets ns (drop (hole l) given) u))
        → key_in (copied_node l n (get_or keys 0 n.key) given (copied ns (drop (hole l) given) (drop 1 keys)) ++ back) t ≡ Some key → P key)
        → ((gs : List (List Node)) → ((t : ℕ) (key : Key) → Meets ns gs t → key_in (copied ns gs (drop 1 keys) ++ back) t ≡ Some key → P key) → All P (map key_of (copied ns [] (drop 1 keys))))
        → All P (map key_of (copied_node l n (get_or keys 0 n.key) [] (copied ns (drop (hole l) []) (drop 1 keys))))
    at Bottom f ih = all-more P (get_or keys 0 n.key) (map key_of (copied ns [] (drop 1 keys))) (f 0 (get_or keys 0 n.key) (inl refl) refl) (ih given (λ t key m e. f (suc t) key (inr (t, (omega arith, m))) e))
    at (Symbol s) f ih = all-more P (get_or keys 0 n.key) (map key_of (copied ns [] (drop 1 keys))) (f 0 (get_or keys 0 n.key) (inl refl) refl) (ih given (λ t key m e. f (suc t) key (inr (t, (omega arith, m))) e))
    at (Call q) f ih = all-more P (get_or keys 0 n.key) (map key_of (copied ns [] (drop 1 keys))) (f 0 (get_or keys 0 n.key) (inl refl) refl) (ih given (λ t key m e. f (suc t) key (inr (t, (omega arith, m))) e))
    at Param f ih =
        let arg : List Node = get_or given 0 [] in
        let rest : List Node = copied ns (drop 1 given) (drop 1 keys) in
        ih (drop 1 given) (λ t key m e.
        f (length arg + t) key (inr (t, (refl, m))) (ap (λ (xs : List Node). key_in xs (length arg + t)) (append_assoc arg rest back) ∙ key-behind arg (rest ++ back) t ∙ e))

-- what isn't linked isn't marked: so are the nodes of the body with which a term begins, once they were unlinked
pub unmarked-body : (G : List KeyedRule) (at : Key) (rule : ℕ) (arguments : List Key) (B : BeginsWith G at rule arguments) (mid : Linked)
    → ((n : ℕ) → IsOfBody G at rule arguments B n → cell mid n ≡ None) → ((k : ℕ) → IsTrue (is_marked mid k) → cell mid k ≢ None)
    → All (λ k. IsTrue (is_marked mid k.number) → ⊥) (copied_keys (nodes_at G rule) B.keys)
unmarked-body G at rule arguments B mid free linked =
    let ns : List Node = nodes_at G B.here.rule in
    let p : ℕ = B.here.place in
    let below : List Node = drop p ns in
    let back : List Node = drop (span kids_of 1 below) below in
    let e : copied (nodes_at G rule) B.args B.keys ++ back ≡ below = ap (λ (xs : List Node). xs ++ back) (sym B.term) ∙ take-drop (span kids_of 1 below) below in
    met-keys (λ k. IsTrue (is_marked mid k.number) → ⊥) (nodes_at G rule) B.args B.keys back (λ t key m there x.
    linked key.number x (free key.number (t, (key, (m, (sym (key-drop ns p t) ∙ ap (λ (xs : List Node). key_in xs t) (sym e) ∙ there, refl))))))
