-- Slots that are equal, and changes in another order.
use Rattle.std.proofs.Common.{◌≡◌, ◌≢◌, ℕ, suc, List, [], ◌∷◌, length, get_or, Option, Some, None, refl, sym, ap, ◌∙◌, arith}
use Rattle.std.proofs.lemmas.List.{length-set, set_comm}
use Rattle.slab.specs.Slab.{Slab, get}
use Rattle.rule_arena.specs.Changing.{changed, changed_at, hung, adopted}
use Rattle.rule_arena.specs.Linked.{Cell}
use Rattle.rule_arena.specs.Terms.{Apart}
use Rattle.rule_arena.specs.declared.key.Key.{Key}
use Rattle.rule_arena.proofs.ChangeLemmas.{changed-other}

-- as many slots, the same next key and as much room
pub record AlikeIn {S T : Type 0} (a : Slab S) (b : Slab T) : Type 0 where
  pub slots : length a.slots ≡ length b.slots
  pub vacant_key : a.vacant_key ≡ b.vacant_key
  pub capacity : a.capacity ≡ b.capacity

-- slots that have the same everywhere are the same
pub same_slots : {T : Type 0} (a b : Slab T) → AlikeIn a b → ((k : ℕ) → get a k ≡ get b k) → a ≡ b
same_slots {T} a b L h =
    let e : a.slots ≡ b.slots = lists a.slots b.slots L.slots h in
    built a.slots b.slots a.vacant_key b.vacant_key a.capacity b.capacity e L.vacant_key L.capacity
  where
    lists : (xs ys : List (Option T)) → length xs ≡ length ys → ((k : ℕ) → get_or xs k None ≡ get_or ys k None) → xs ≡ ys
    lists [] [] n h = refl
    lists [] (y ∷ ys) n h = absurd (omega arith)
    lists (x ∷ xs) [] n h = absurd (omega arith)
    lists (x ∷ xs) (y ∷ ys) n h =
        let e : x ≡ y = h 0 in
        let r : xs ≡ ys = lists xs ys (omega arith) (λ k. h (suc k)) in
        cc

    built : (xs ys : List (Option T)) (v w c d : ℕ) → xs ≡ ys → v ≡ w → c ≡ d → let l : Slab T = record { slots = xs; vacant_key = v; capacity = c } in let r : Slab T = record { slots = ys; vacant_key = w; capacity = d } in l ≡ r
    built xs ys v w c d e f g = cc

pub alike-trans : {R S T : Type 0} (a : Slab R) (b : Slab S) (c : Slab T) → AlikeIn a b → AlikeIn b c → AlikeIn a c
alike-trans a b c x y = record { slots = x.slots ∙ y.slots; vacant_key = x.vacant_key ∙ y.vacant_key; capacity = x.capacity ∙ y.capacity }

pub alike-sym : {S T : Type 0} (a : Slab S) (b : Slab T) → AlikeIn a b → AlikeIn b a
alike-sym a b x = record { slots = sym x.slots; vacant_key = sym x.vacant_key; capacity = sym x.capacity }

pub alike-changed : {T : Type 0} (s : Slab T) (k : ℕ) (f : T → T) → AlikeIn (changed s k f) s
alike-changed {T} s k f = at (get s k)
  where
    at : (o : Option T) → AlikeIn (changed_at s k f o) s
    at None = record { slots = refl; vacant_key = refl; capacity = refl }
    at (Some c) = record { slots = length-set s.slots k (Some (f c)); vacant_key = refl; capacity = refl }

pub alike-adopted : (s : Slab Cell) (up : Key) (place : ℕ) (ks : List Key) → AlikeIn (adopted s up place ks) s
alike-adopted s up place [] = record { slots = refl; vacant_key = refl; capacity = refl }
alike-adopted s up place (k ∷ ks) =
    let t : Slab Cell = changed s k.number (hung (Some (up, place))) in
    alike-trans (adopted t up (suc place) ks) t s (alike-adopted t up (suc place) ks) (alike-changed s k.number (hung (Some (up, place))))

-- two changes at different numbers
pub changed-comm : {T : Type 0} (s : Slab T) (j k : ℕ) (f g : T → T) → j ≢ k → changed (changed s j f) k g ≡ changed (changed s k g) j f
changed-comm {T} s j k f g n =
    ap (λ (o : Option T). changed_at (changed s j f) k g o) (changed-other s j f k (λ e. n (sym e)))
    ∙ both (get s j) (get s k)
    ∙ sym (ap (λ (o : Option T). changed_at (changed s k g) j f o) (changed-other s k g j n))
  where
    both : (o p : Option T) → changed_at (changed_at s j f o) k g p ≡ changed_at (changed_at s k g p) j f o
    both None None = refl
    both None (Some d) = refl
    both (Some c) None = refl
    both (Some c) (Some d) = ap (λ (xs : List (Option T)). record s { slots = xs }) (set_comm s.slots j k (Some (f c)) (Some (g d)) n)

-- a change at a number that is none of the children
pub changed-adopted : (s : Slab Cell) (up : Key) (place : ℕ) (ks : List Key) (j : ℕ) (f : Cell → Cell) → Apart ks j → adopted (changed s j f) up place ks ≡ changed (adopted s up place ks) j f
changed-adopted s up place [] j f a = refl
changed-adopted s up place (k ∷ ks) j f a =
    ap (λ (t : Slab Cell). adopted t up (suc place) ks) (changed-comm s j k.number f (hung (Some (up, place))) (λ e. a 0 k refl (sym e)))
    ∙ changed-adopted (changed s k.number (hung (Some (up, place)))) up (suc place) ks j f (λ i m e. a (suc i) m e)
