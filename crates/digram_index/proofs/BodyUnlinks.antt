-- The nodes of a body with which a term begins are unlinked one after another, beside the nodes of the body.
use Rattle.std.proofs.Common.{◌≡◌, ◌≢◌, ◌⊎◌, inl, inr, ℕ, zero, suc, ◌+◌, ◌≤◌, List, [], ◌∷◌, ◌++◌, length, take, drop, Option, Some, None, IsSome, slice_get, refl, sym, ap, ◌∙◌, subst, arith}
use Rattle.rule_arena.specs.Preorder.{span}
use Rattle.rule_arena.specs.Terms.{Node, key_in, kids_of}
use Rattle.rule_arena.specs.declared.key.Key.{Key}
use Rattle.rule_arena.specs.declared.label.Label.{Label}
use Rattle.slt_grammar.specs.Calling.{BeginsWith}
use Rattle.slt_grammar.specs.Keyed.{Keyed, IsKeyed, key_at, nodes_at}
use Rattle.slt_grammar.specs.KeyedEdits.{Stands}
use Rattle.digram_index.specs.Calls.{IsOfBody}
use Rattle.digram_index.specs.Copies.{IsCopyLinked, Meets, width}
use Rattle.digram_index.specs.Linked.{IsIndexOf, Linked, cell}
use Rattle.digram_index.specs.Marking.{MarksFewer}
use Rattle.digram_index.specs.Partly.{IsPartOf}
use Rattle.digram_index.proofs.CopyLinks.{IsAhead, ahead-here, ahead-next, ahead-still, at-next, copy-next, copy-stands, is-copy, length-drop-item}
use Rattle.digram_index.proofs.NearInlines.{each-args}
use Rattle.digram_index.proofs.NodeLinks.{stays-free}
use Rattle.digram_index.proofs.Numbered.{fewer-same}

-- an index of the grammar is right of each node
pub whole-part : (g : Keyed) (I : Linked) → IsIndexOf g I → IsPartOf g I
whole-part g I A = record {
  rules = A.rules;
  part = λ r p key e. inr (A.all r p key e);
  only = λ k x. let w = A.only k x in (w.0, (record { rule = w.1.0; place = w.1.1.0; there = w.1.1.1.0 }, w.1.1.1.1));
}

pub take-drop : (k : ℕ) (xs : List Node) → take k xs ++ drop k xs ≡ xs
take-drop zero xs = refl
take-drop (suc k) [] = refl
take-drop (suc k) (x ∷ xs) = ap (λ (zs : List Node). x ∷ zs) (take-drop k xs)

-- a walk over a body and a term that begins with it: what is of the body is not linked, or still ahead
pub record IsWalked (g : Keyed) (at : Key) (q : ℕ) (arguments : List Key) (B : BeginsWith g.rules at q arguments) (old new : Linked) (model copy : Option Key) (begin now : ℕ) : Type 0 where
  pub walk : IsCopyLinked g old q model copy
  pub free : (n : ℕ) → IsOfBody g.rules at q arguments B n → (cell new n ≡ None) ⊎ IsAhead g old q model copy walk n
  pub ahead : (n : ℕ) → IsAhead g old q model copy walk n → IsOfBody g.rules at q arguments B n
  pub others : (n : ℕ) → (IsOfBody g.rules at q arguments B n → ⊥) → cell new n ≡ cell old n
  pub counted : now ≡ begin + (walk.at + walk.at)

-- the same for each way in which it begins with it
pub record IsUnlinking (g : Keyed) (at : Key) (q : ℕ) (old new : Linked) (model copy : Option Key) (begin now : ℕ) : Type 0 where
  pub each : (arguments : List Key) (B : BeginsWith g.rules at q arguments) → IsWalked g at q arguments B old new model copy begin now
  pub stays : (n : ℕ) → cell old n ≡ None → cell new n ≡ None
  pub rules : new.rules ≡ old.rules
  pub room : length new.cells ≡ length old.cells
  pub spares : (new.spare_links ≡ old.spare_links) × (new.spare_rules ≡ old.spare_rules)
  pub marks : MarksFewer old new

module _ (g : Keyed) (K : IsKeyed g) (at : Key) (q : ℕ) (old : Linked) (A : IsIndexOf g old) where
  walk-begins : (arguments : List Key) (B : BeginsWith g.rules at q arguments) (root : Key) → key_at g.rules q 0 ≡ Some root → IsCopyLinked g old q (Some root) (Some at)
  walk-begins arguments B root e =
      let ns : List Node = drop B.here.place (nodes_at g.rules B.here.rule) in
      record {
        at = 0;
        rule = B.here.rule;
        place = B.here.place;
        given = B.args;
        keys = B.keys;
        back = drop (span kids_of 1 ns) ns;
        model_at = e;
        copy_at = λ s. B.here.there;
        within = omega arith;
        rest = sym (take-drop (span kids_of 1 ns) ns) ∙ ap (λ (xs : List Node). xs ++ drop (span kids_of 1 ns) ns) B.term;
        terms = each-args arguments B.args B.roots;
        many = B.enough;
        part = whole-part g old A;
        todo = λ key S. inl (λ r p f. A.all r p key f);
      }

  pub unlinking-begins : (root : Key) (begin : ℕ) → key_at g.rules q 0 ≡ Some root → IsUnlinking g at q old old (Some root) (Some at) begin begin
  unfolding walk-begins
  unlinking-begins root begin e = record {
    each = λ arguments B. record {
      walk = walk-begins arguments B root e;
      free = λ n b. inr b;
      ahead = λ n b. b;
      others = λ n f. refl;
      counted = omega arith;
    };
    stays = λ n z. z;
    rules = refl;
    room = refl;
    spares = (refl, refl);
    marks = fewer-same old;
  }

  module _ (now : Linked) (node : Key) (copy : Option Key) (arguments : List Key) (B : BeginsWith g.rules at q arguments) (begin then : ℕ)
      (W : IsWalked g at q arguments B old now (Some node) copy begin then) where
    -- something stands beside the node
    pub some-here : IsSome copy
    some-here = is-copy g K q old node copy W.walk

    module _ (label : Label) (told : (p : ℕ) → key_at g.rules q p ≡ Some node → (n : ℕ) × (slice_get (nodes_at g.rules q) p ≡ Some (record { key = node; label = label; kids = n })))
        (key : Key) (is_key : copy ≡ Some key) where
      pub stands : Stands g.rules key
      stands = copy-stands g K q old node copy W.walk label told key is_key

      -- there is one more of the body
      pub fewer : W.walk.at + 1 ≤ length (nodes_at g.rules q)
      fewer = length-drop-item (nodes_at g.rules q) W.walk.at _ (told W.walk.at W.walk.model_at).1

      module _ (model next : Option Key) (is_model : (p : ℕ) → key_at g.rules q p ≡ Some node → key_at g.rules q (p + 1) ≡ model)
          (is_next : IsSome model → key_at g.rules W.walk.rule (W.walk.place + width label W.walk.given) ≡ next) where
        further : IsCopyLinked g old q model next
        further = copy-next g K q old node copy W.walk label told key is_key old W.walk.part (λ r p e. A.all r p key e) (λ k d. refl) next model is_model is_next

        passed : (m : ℕ) → IsAhead g old q (Some node) copy W.walk m → (m ≡ key.number) ⊎ IsAhead g old q model next further m
        unfolding further
        passed = ahead-next g K q old node copy W.walk label told key is_key old W.walk.part (λ r p e. A.all r p key e) (λ k d. refl) next model is_model is_next

        behind : (m : ℕ) → IsAhead g old q model next further m → IsAhead g old q (Some node) copy W.walk m
        unfolding further
        behind = ahead-still g K q old node copy W.walk label told key is_key old W.walk.part (λ r p e. A.all r p key e) (λ k d. refl) next model is_model is_next

        one-more : further.at ≡ W.walk.at + 1
        unfolding further
        one-more = at-next g K q old node copy W.walk label told key is_key old W.walk.part (λ r p e. A.all r p key e) (λ k d. refl) next model is_model is_next

        pub walked-next : (new : Linked) (later : ℕ) → cell new key.number ≡ None → ((k : ℕ) → k ≢ key.number → cell new k ≡ cell now k) → later ≡ then + 1 + 1 → IsWalked g at q arguments B old new model next begin later
        walked-next new later free others l = record {
          walk = further;
          free = λ m b. by m (W.free m b);
          ahead = λ m a. W.ahead m (behind m a);
          others = λ m f. others m (λ z. f (subst (λ (j : ℕ). IsOfBody g.rules at q arguments B j) (sym z) (W.ahead key.number (ahead-here g K q old node copy W.walk label told key is_key)))) ∙ W.others m f;
          counted = omega (arith, l, W.counted, one-more);
        }
          where
            by : (m : ℕ) → (cell now m ≡ None) ⊎ IsAhead g old q (Some node) copy W.walk m → (cell new m ≡ None) ⊎ IsAhead g old q model next further m
            by m (inl z) = inl (stays-free now new key free others m z)
            by m (inr a) = of (passed m a)
              where
                of : (m ≡ key.number) ⊎ IsAhead g old q model next further m → (cell new m ≡ None) ⊎ IsAhead g old q model next further m
                of (inl z) = inl (ap (λ (j : ℕ). cell new j) z ∙ free)
                of (inr b) = inr b

  -- behind the last node of the body nothing is ahead
  pub walked-all : (now : Linked) (copy : Option Key) (arguments : List Key) (B : BeginsWith g.rules at q arguments) (begin then : ℕ) → IsWalked g at q arguments B old now None copy begin then
      → (n : ℕ) → IsOfBody g.rules at q arguments B n → cell now n ≡ None
  walked-all now copy arguments B begin then W n b = by (W.free n b)
    where
      none : (xs : List Node) (i : ℕ) → key_in xs i ≡ None → drop i xs ≡ []
      none [] zero e = refl
      none [] (suc i) e = refl
      none (x ∷ xs) zero e = absurd (let z : Some x.key ≡ None = e in cc)
      none (x ∷ xs) (suc i) e = none xs i e

      by : (cell now n ≡ None) ⊎ IsAhead g old q None copy W.walk n → cell now n ≡ None
      by (inl z) = z
      by (inr (t, (k, (M, e)))) = absurd (subst (λ (xs : List Node). Meets xs W.walk.given t) (none (nodes_at g.rules q) W.walk.at W.walk.model_at) M)
