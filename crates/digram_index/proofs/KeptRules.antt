-- An index that is kept while a rule is put before another, or is taken away.
use Rattle.std.proofs.Common.{◌≡◌, ◌≢◌, ◌+◌, ◌<◌, ◌≤◌, ◌⊎◌, inl, inr, ℕ, length, map, remove, Some, None, refl, ap, sym, ◌∙◌, arith}
use Rattle.std.proofs.lemmas.Bool.{cases_eq}
use Rattle.std.proofs.lemmas.List.{length-map}
use Rattle.rule_arena.specs.declared.key.Key.{Key}
use Rattle.rule_arena.specs.declared.label.Label.{Label}
use Rattle.rule_arena.specs.declared.label.Label.TheVariants.{Bottom, Symbol, Call, Param}
use Rattle.slt_grammar.specs.Editing.{shifted}
use Rattle.slt_grammar.specs.Grammars.{calls_of}
use Rattle.slt_grammar.specs.Keyed.{Keyed, KeyedRule, IsKeyed, rules_of, key_at}
use Rattle.slt_grammar.specs.KeyedEdits.{shifted_keyed, unshifted_keyed, rule_put, rule_dropped}
use Rattle.slt_grammar.specs.Placing.{DoesNotCall}
use Rattle.slt_grammar.proofs.Additions.{length-insert, never-there}
use Rattle.slt_grammar.proofs.Removals.{length-left}
use Rattle.digram_index.specs.Building.{IsNumberIn}
use Rattle.digram_index.specs.Digrams.{occurrence_at}
use Rattle.digram_index.specs.Keeping.{IsIndexBut}
use Rattle.digram_index.specs.Linked.{Linked, IsIndexOf, Lacks, cell, shifted_cell, unshifted_cell}
use Rattle.digram_index.proofs.Apartness.{one-key, stands}
use Rattle.digram_index.proofs.BuildLemmas.{none-left}
use Rattle.digram_index.proofs.MovedRules.{place_cases, key-put, occurrence-put, key-left, occurrence-left, never-called}
use Rattle.digram_index.proofs.Tops.{call-same}

-- where the nodes of a rule were unlinked, the index has all others
pub unlinked-but : (g : Keyed) (r : ℕ) (I J : Linked) → IsIndexOf g I → J.rules ≡ I.rules
    → ((p : ℕ) (key : Key) → key_at g.rules r p ≡ Some key → cell J key.number ≡ None)
    → ((k : ℕ) → (IsNumberIn g.rules r k → ⊥) → cell J k ≡ cell I k) → IsIndexBut g J (IsNumberIn g.rules r)
unlinked-but g r I J A rules free others = record {
  rules = rules ∙ A.rules;
  all = λ s p key k far. others key.number far ∙ A.all s p key k;
  free = free';
  only = λ k x. A.only k (λ z. x (others k (λ n. x (free' k n)) ∙ z));
}
  where
    free' : (k : ℕ) → IsNumberIn g.rules r k → cell J k ≡ None
    free' k (p, (key, (a, b))) = ap (cell J) (sym b) ∙ free p key a

-- and where those of a rule were linked, it is the grammar's
pub linked-whole : (g : Keyed) → IsKeyed g → (r : ℕ) (I J : Linked) → IsIndexBut g I (IsNumberIn g.rules r) → J.rules ≡ I.rules
    → ((p : ℕ) (key : Key) → key_at g.rules r p ≡ Some key → cell J key.number ≡ occurrence_at g.rules r p)
    → ((k : ℕ) → (IsNumberIn g.rules r k → ⊥) → cell J k ≡ cell I k)
    → ((k : ℕ) → cell J k ≢ None → (cell I k ≢ None) ⊎ IsNumberIn g.rules r k) → IsIndexOf g J
linked-whole g K r I J B rules linked others only = record {
  rules = rules ∙ B.rules;
  all = λ s p key k. at s p key k (cases_eq s r);
  only = λ k x. known k (only k x);
}
  where
    at : (s p : ℕ) (key : Key) → key_at g.rules s p ≡ Some key → (s ≡ r) ⊎ (s ≡ r → ⊥) → cell J key.number ≡ occurrence_at g.rules s p
    at s p key k (inl e) = linked p key (ap (λ x. key_at g.rules x p) (sym e) ∙ k) ∙ ap (λ x. occurrence_at g.rules x p) (sym e)
    at s p key k (inr n) = others key.number far ∙ B.all s p key k far
      where
        far : IsNumberIn g.rules r key.number → ⊥
        far (q, (m, (a, b))) = n (K.once m s p r q (k ∙ ap Some (one-key key m (sym b))) a).0

    known : (k : ℕ) → (cell I k ≢ None) ⊎ IsNumberIn g.rules r k → (key : Key) × ((s : ℕ) × ((p : ℕ) × ((key_at g.rules s p ≡ Some key) × (key.number ≡ k))))
    known k (inl x) = B.only k x
    known k (inr (p, (key, (a, b)))) = (key, (r, (p, (a, b))))

-- once a rule was put before the one at a place, the index has all but the new rule's occurrences
pub put-kept : (g h : Keyed) → IsKeyed h → (place : ℕ) (R : KeyedRule) → place ≤ length g.rules → h.rules ≡ rule_put g.rules place R → (I J : Linked) → IsIndexOf g I → J.rules ≡ I.rules + 1
    → ((k : ℕ) → cell J k ≡ shifted_cell place (cell I k)) → IsIndexBut h J (IsNumberIn h.rules place)
put-kept g h K place R l e I J A rules cells = record {
  rules = let a = A.rules in let n = length-insert (map (shifted_keyed place) g.rules) place R in let m = length-map g.rules (shifted_keyed place) in let q = ap length e in omega arith;
  all = λ r p key k far. at r p key k far (place_cases place r);
  free = λ k n. cells k ∙ ap (shifted_cell place) (none-left (cell I k) (apart k n));
  only = λ k x.
      let w = A.only k (λ z. x (cells k ∙ ap (shifted_cell place) z)) in
      (w.0, (shifted place w.1.0, (w.1.1.0, (there w.1.0 w.1.1.0 w.0 w.1.1.1.0, w.1.1.1.1))));
}
  where
    there : (s p : ℕ) (key : Key) → key_at g.rules s p ≡ Some key → key_at h.rules (shifted place s) p ≡ Some key
    there s p key k = ap (λ H. key_at H (shifted place s) p) e ∙ key-put g.rules place R l s p ∙ k

    at : (r p : ℕ) (key : Key) → key_at h.rules r p ≡ Some key → (IsNumberIn h.rules place key.number → ⊥) → (r ≡ place) ⊎ ((s : ℕ) × (r ≡ shifted place s)) → cell J key.number ≡ occurrence_at h.rules r p
    at r p key k far (inl z) = absurd (far (p, (key, (ap (λ x. key_at h.rules x p) (sym z) ∙ k, refl))))
    at r p key k far (inr (s, z)) =
        let t : key_at g.rules s p ≡ Some key = sym (key-put g.rules place R l s p) ∙ ap (λ H. key_at H (shifted place s) p) (sym e) ∙ ap (λ x. key_at h.rules x p) (sym z) ∙ k in
        cells key.number ∙ ap (shifted_cell place) (A.all s p key t) ∙ sym (occurrence-put g.rules place R l s p)
        ∙ ap (λ H. occurrence_at H (shifted place s) p) (sym e) ∙ ap (λ x. occurrence_at h.rules x p) (sym z)

    apart : (k : ℕ) → IsNumberIn h.rules place k → cell I k ≢ None → ⊥
    apart k (p, (key, (a, b))) x =
        let w = A.only k x in
        never-there place w.1.0 (K.once w.0 (shifted place w.1.0) w.1.1.0 place p (there w.1.0 w.1.1.0 w.0 w.1.1.1.0) (a ∙ ap Some (one-key key w.0 (b ∙ sym w.1.1.1.1)))).0

not-call : (place : ℕ) (l : Label) → DoesNotCall place l → l ≢ Call place
not-call place Bottom n = λ e. let z : Bottom ≡ Call place = e in cc
not-call place (Symbol f) n = λ e. let z : Symbol f ≡ Call place = e in cc
not-call place (Call q) n = λ e. n (call-same q place e)
not-call place Param n = λ e. let z : Param ≡ Call place = e in cc

-- no linked digram has a call of a rule that is not called
pub drop-lacks : (g : Keyed) (place : ℕ) → calls_of (rules_of g.rules) place ≡ 0 → (I : Linked) (near : ℕ → Type 0) → IsIndexBut g I near → Lacks I place
drop-lacks g place uncalled I near B = λ k o c.
    let w = B.only k (λ z. let x : Some o ≡ None = sym c ∙ z in cc) in
    let far = λ (n : near w.0.number). let x : Some o ≡ None = sym c ∙ ap (cell I) (sym w.1.1.1.1) ∙ B.free w.0.number n in absurd (cc) in
    let here : occurrence_at g.rules w.1.0 w.1.1.0 ≡ Some o = sym (B.all w.1.0 w.1.1.0 w.0 w.1.1.1.0 far) ∙ ap (cell I) w.1.1.1.1 ∙ c in
    let S = stands g.rules w.1.0 w.1.1.0 w.0 o w.1.1.1.0 here in (
      λ e. not-call place S.up.label (never-called g.rules place uncalled w.1.0 S.above S.up S.there) (S.high ∙ e),
      λ e. not-call place S.node.label (never-called g.rules place uncalled w.1.0 w.1.1.0 S.node S.here) (S.low ∙ e),
    )

-- once a rule was taken away whose nodes are not linked, the index is the grammar's
pub drop-kept : (g h : Keyed) → IsKeyed g → (place : ℕ) → place < length g.rules → calls_of (rules_of g.rules) place ≡ 0 → h.rules ≡ rule_dropped g.rules place → (I J : Linked) → IsIndexBut g I (IsNumberIn g.rules place) → J.rules + 1 ≡ I.rules
    → ((k : ℕ) → cell J k ≡ unshifted_cell place (cell I k)) → IsIndexOf h J
drop-kept g h K place l uncalled e I J B rules cells = record {
  rules = let b = B.rules in let n = length-left g.rules place l in let m = length-map (remove g.rules place) (unshifted_keyed place) in let q = ap length e in omega arith;
  all = λ r p key k.
      let t : key_at g.rules (shifted place r) p ≡ Some key = sym (key-left g.rules place uncalled r p) ∙ ap (λ H. key_at H r p) (sym e) ∙ k in
      cells key.number ∙ ap (unshifted_cell place) (B.all (shifted place r) p key t (far r p key t)) ∙ sym (occurrence-left g.rules place uncalled r p) ∙ ap (λ H. occurrence_at H r p) (sym e);
  only = λ k x.
      let y = λ (z : cell I k ≡ None). x (cells k ∙ ap (unshifted_cell place) z) in
      let w = B.only k y in
      known k y w.0 w.1.0 w.1.1.0 w.1.1.1.0 w.1.1.1.1 (place_cases place w.1.0);
}
  where
    far : (r p : ℕ) (key : Key) → key_at g.rules (shifted place r) p ≡ Some key → IsNumberIn g.rules place key.number → ⊥
    far r p key k (q, (m, (a, b))) = never-there place r (K.once m (shifted place r) p place q (k ∙ ap Some (one-key key m (sym b))) a).0

    known : (k : ℕ) → cell I k ≢ None → (key : Key) (s p : ℕ) → key_at g.rules s p ≡ Some key → key.number ≡ k → (s ≡ place) ⊎ ((r : ℕ) × (s ≡ shifted place r))
        → (key : Key) × ((r : ℕ) × ((p : ℕ) × ((key_at h.rules r p ≡ Some key) × (key.number ≡ k))))
    known k y key s p a b (inl z) = absurd (y (B.free k (p, (key, (ap (λ x. key_at g.rules x p) (sym z) ∙ a, b)))))
    known k y key s p a b (inr (r, z)) = (key, (r, (p, (ap (λ H. key_at H r p) e ∙ key-left g.rules place uncalled r p ∙ ap (λ x. key_at g.rules x p) (sym z) ∙ a, b))))
