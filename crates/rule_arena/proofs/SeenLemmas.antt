-- What is seen of slots, and of what is written to them.
use Rattle.std.specs.Option.{option_copied_mut}
use Rattle.std.proofs.Common.{Bor, MutBor, option_copied, ◌≡◌, ◌≢◌, inl, inr, ℕ, zero, suc, ◌+◌, ◌-◌, ◌<◌, List, [], ◌∷◌, ◌++◌, length, map, get_or, drop, count_by, is_some, cond, Option, Some, None, IsSome, slice_get, refl, sym, ap, ◌∙◌, subst, arith}
use Rattle.std.proofs.lemmas.Bool.{cases_eq}
use Rattle.std.proofs.lemmas.List.{length-map}
use Rattle.std.proofs.lemmas.List.Sums.{sum_by-cons}
use Rattle.slab.specs.Slab.{Slab, get, slab_len, with_value, Updates}
use Rattle.rule_arena.specs.Changing.{changed, changed_at, adopted, with_kids}
use Rattle.rule_arena.specs.Linked.{Cell, Raw}
use Rattle.rule_arena.specs.Linking.{in_row, with_row, first_key, lined}
use Rattle.rule_arena.specs.Siblings.{IsNoChild, AreNoChildren, after, row, step, linked, linked_slot, seen}
use Rattle.rule_arena.specs.Terms.{Apart, AreDistinctKeys}
use Rattle.rule_arena.specs.declared.key.Key.{Key}
use Rattle.rule_arena.proofs.CellLemmas.{has, some_of}
use Rattle.rule_arena.proofs.ChangeLemmas.{changed-same, changed-other, changed-some}
use Rattle.rule_arena.proofs.AddLemmas.{among, head_apart, rest_distinct, adopted-other, adopted-kid}
use Rattle.rule_arena.proofs.ShapeLemmas.{AlikeIn, same_slots, alike-trans, alike-sym, alike-changed, alike-adopted}

-- steps from sibling to sibling
pub step-after : (H : ℕ → Option Raw) (i : ℕ) (k : Key) → step H (suc i) k ≡ step H i (after (H k.number))
step-after H zero k = refl
step-after H (suc i) k = ap (λ (x : Key). after (H x.number)) (step-after H i k)

-- one step more
pub step-next : (s : Slab Raw) (i : ℕ) (first at : Key) (r : Raw) → at ≡ step (get s) i first → get s at.number ≡ Some r → r.next ≡ step (get s) (i + 1) first
step-next s i first at r e f =
    let z : i + 1 ≡ suc i = omega arith in
    rw z (sym (ap after (ap (λ (x : Key). get s x.number) (sym e) ∙ f)))

pub length-row : (H : ℕ → Option Raw) (n : ℕ) (k : Key) → length (row H n k) ≡ n
length-row H zero k = refl
length-row H (suc n) k = ap suc (length-row H n (after (H k.number)))

pub get-row : (H : ℕ → Option Raw) (n : ℕ) (k : Key) (i : ℕ) → i < n → slice_get (row H n k) i ≡ Some (step H i k)
get-row H zero k i h = absurd (omega arith)
get-row H (suc n) k zero h = refl
get-row H (suc n) k (suc i) h = get-row H n (after (H k.number)) i (omega arith) ∙ ap Some (sym (step-after H i k))

pub row-push : (H : ℕ → Option Raw) (n : ℕ) (k : Key) → row H (suc n) k ≡ row H n k ++ step H n k ∷ []
row-push H zero k = refl
row-push H (suc n) k =
    ap (λ (ks : List Key). k ∷ ks) (row-push H n (after (H k.number)) ∙ ap (λ (x : Key). row H n (after (H k.number)) ++ x ∷ []) (sym (step-after H n k)))

-- each of these names the next
abbrev pub Follows : (ℕ → Option Raw) → List Key → Type 0
Follows H ks = (i : ℕ) (x y : Key) → slice_get ks i ≡ Some x → slice_get ks (suc i) ≡ Some y → after (H x.number) ≡ y

pub row-is : (H : ℕ → Option Raw) (k : Key) (ks : List Key) → Follows H (k ∷ ks) → row H (suc (length ks)) k ≡ k ∷ ks
row-is H k [] f = refl
row-is H k (m ∷ ks) f =
    let e : after (H k.number) ≡ m = f 0 k m refl refl in
    ap (λ (xs : List Key). k ∷ xs) (ap (λ (x : Key). row H (suc (length ks)) x) e ∙ row-is H m ks (λ i x y a b. f (suc i) x y a b))

pub row-follows : (H : ℕ → Option Raw) (n : ℕ) (k : Key) → Follows H (row H n k)
row-follows H zero k i x y a b = absurd (cc)
row-follows H (suc zero) k i x y a b = absurd (cc)
row-follows H (suc (suc n)) k zero x y a b = let h : k ≡ x = cc in let g : after (H k.number) ≡ y = cc in ap (λ (z : Key). after (H z.number)) (sym h) ∙ g
row-follows H (suc (suc n)) k (suc i) x y a b = row-follows H (suc n) (after (H k.number)) i x y a b

pub row-same : (H H' : ℕ → Option Raw) (n : ℕ) (k : Key) → ((i : ℕ) (x : Key) → slice_get (row H n k) i ≡ Some x → after (H' x.number) ≡ after (H x.number)) → row H' n k ≡ row H n k
row-same H H' zero k h = refl
row-same H H' (suc n) k h =
    let e : after (H' k.number) ≡ after (H k.number) = h 0 k refl in
    ap (λ (xs : List Key). k ∷ xs) (ap (λ (x : Key). row H' n x) e ∙ row-same H H' n (after (H k.number)) (λ i x a. h (suc i) x a))

-- the slots of all of them
pub get-seen : (s : Slab Raw) (k : ℕ) → get (seen s) k ≡ linked_slot (get s) (get s k)
unfolding seen
get-seen s k = at s.slots k
  where
    at : (xs : List (Option Raw)) (k : ℕ) → get_or (map (linked_slot (get s)) xs) k None ≡ linked_slot (get s) (get_or xs k None)
    at [] k = refl
    at (x ∷ xs) zero = refl
    at (x ∷ xs) (suc k) = at xs k

pub seen-some : (s : Slab Raw) (k : ℕ) (r : Raw) → get s k ≡ Some r → get (seen s) k ≡ Some (linked (get s) r)
seen-some s k r e = get-seen s k ∙ ap (λ (o : Option Raw). linked_slot (get s) o) e

pub seen-none : (s : Slab Raw) (k : ℕ) → get s k ≡ None → get (seen s) k ≡ None
seen-none s k e = get-seen s k ∙ ap (λ (o : Option Raw). linked_slot (get s) o) e

-- what is seen, as it is kept
pub raw_of : (s : Slab Raw) (k : ℕ) → IsSome (get (seen s) k) → (r : Raw) × (get s k ≡ Some r)
raw_of s k h = at (get s k) refl
  where
    at : (o : Option Raw) → get s k ≡ o → (r : Raw) × (get s k ≡ Some r)
    at None e = absurd (let c = some_of (get (seen s) k) h in let z : None ≡ Some c.0 = sym (seen-none s k e) ∙ c.1 in cc)
    at (Some r) e = (r, e)

pub raw_some : (s : Slab Raw) (k : ℕ) → IsSome (get (seen s) k) → IsSome (get s k)
raw_some s k h = let r = raw_of s k h in has _ r.0 r.1

pub raw_as : (s : Slab Raw) (k : ℕ) (c : Cell) → get (seen s) k ≡ Some c → (r : Raw) × ((get s k ≡ Some r) × (linked (get s) r ≡ c))
raw_as s k c e =
    let r = raw_of s k (has _ c e) in
    let i : Some (linked (get s) r.0) ≡ Some c = sym (seen-some s k r.0 r.1) ∙ e in
    (r.0, (r.1, cc))

pub alike-seen : (s : Slab Raw) → AlikeIn (seen s) s
unfolding seen
alike-seen s = record { slots = length-map s.slots (linked_slot (get s)); vacant_key = refl; capacity = refl }

pub capacity-seen : (s : Slab Raw) → (seen s).capacity ≡ s.capacity
unfolding seen
capacity-seen s = refl

pub len-seen : (s : Slab Raw) → slab_len (seen s) ≡ slab_len s
unfolding seen
len-seen s = in_list (linked_slot (get s)) (λ o. keeps o) s.slots
  where
    keeps : (o : Option Raw) → is_some (linked_slot (get s) o) ≡ is_some o
    keeps None = refl
    keeps (Some r) = refl

    in_list : (f : Option Raw → Option Cell) → ((o : Option Raw) → is_some (f o) ≡ is_some o) → (xs : List (Option Raw)) → count_by is_some (map f xs) ≡ count_by is_some xs
    in_list f h [] = refl
    in_list f h (x ∷ xs) =
        omega (
          arith,
          sum_by-cons (λ o. cond (is_some o) 1 0) x xs,
          sum_by-cons (λ o. cond (is_some o) 1 0) (f x) (map f xs),
          ap (λ b. cond {A = ℕ} b 1 0) (h x),
          in_list f h xs,
        )

pub seen-room : (s : Slab Raw) (n : ℕ) → (seen (record s { capacity = n })) ≡ record (seen s) { capacity = n }
unfolding seen
seen-room s n = refl

pub kept-seen : (s t : Slab Raw) (n : ℕ) → t ≡ record s { capacity = n } → seen t ≡ record (seen s) { capacity = n }
kept-seen s t n e = ap (λ (x : Slab Raw). seen x) e ∙ seen-room s n

pub none-seen : (s : Slab Raw) → s.slots ≡ [] → (j : ℕ) → get (seen s) j ≡ None
none-seen s e j = seen-none s j (ap (λ (xs : List (Option Raw)). get_or xs j None) e)

-- slots whose cells are seen
pub seen-is : (s : Slab Raw) (t : Slab Cell) → AlikeIn s t → ((k : ℕ) → linked_slot (get s) (get s k) ≡ get t k) → seen s ≡ t
seen-is s t L h = same_slots (seen s) t (alike-trans (seen s) s t (alike-seen s) L) (λ k. get-seen s k ∙ h k)

-- a cell whose children's links stay
pub linked-same : (H H' : ℕ → Option Raw) (r : Raw) → ((i : ℕ) (x : Key) → slice_get (row H r.count r.first) i ≡ Some x → after (H' x.number) ≡ after (H x.number)) → linked H' r ≡ linked H r
linked-same H H' r h = ap (λ (ks : List Key). let c : Cell = record { label = r.label; parent = r.parent; kids = ks } in c) (row-same H H' r.count r.first h)

-- a write that leaves every link between siblings
pub links_kept : (s : Slab Raw) (k : ℕ) (f : Raw → Raw) → ((r : Raw) → (f r).next ≡ r.next) → (j : ℕ) → after (get (changed s k f) j) ≡ after (get s j)
links_kept s k f keeps j = elim (cases_eq j k) [
  | inl e ↦ subst (λ (i : ℕ). after (get (changed s k f) i) ≡ after (get s i)) (sym e) (at (get s k) refl)
  | inr d ↦ ap after (changed-other s k f j d)
]
  where
    at : (o : Option Raw) → get s k ≡ o → after (get (changed s k f) k) ≡ after (get s k)
    at None e = ap (λ (t : Slab Raw). after (get t k)) (ap (λ (o : Option Raw). changed_at s k f o) e)
    at (Some r) e = ap after (changed-same s k f r e) ∙ keeps r ∙ sym (ap after e)

module _ (s : Slab Raw) (k : ℕ) (f : Raw → Raw) (g : Cell → Cell) (keeps : (r : Raw) → (f r).next ≡ r.next) (shows : (r : Raw) → get s k ≡ Some r → linked (get (changed s k f)) (f r) ≡ g (linked (get (changed s k f)) r)) where
  same : (r : Raw) → linked (get (changed s k f)) r ≡ linked (get s) r
  same r = linked-same (get s) (get (changed s k f)) r (λ i x e. links_kept s k f keeps x.number)

  pub seen-write : IsSome (get (seen s) k) → seen (changed s k f) ≡ changed (seen s) k g
  seen-write there =
      seen-is (changed s k f) (changed (seen s) k g)
      (alike-trans (changed s k f) s (changed (seen s) k g) (alike-changed s k f) (alike-sym (changed (seen s) k g) s (alike-trans (changed (seen s) k g) (seen s) s (alike-changed (seen s) k g) (alike-seen s))))
      (λ j. elim (cases_eq j k) [
        | inl e ↦ subst (λ (i : ℕ). linked_slot (get (changed s k f)) (get (changed s k f) i) ≡ get (changed (seen s) k g) i) (sym e) here
        | inr d ↦ ap (λ (o : Option Raw). linked_slot (get (changed s k f)) o) (changed-other s k f j d) ∙ other (get s j) ∙ sym (changed-other (seen s) k g j d ∙ get-seen s j)
      ])
    where
      other : (o : Option Raw) → linked_slot (get (changed s k f)) o ≡ linked_slot (get s) o
      other None = refl
      other (Some r) = ap Some (same r)

      here : linked_slot (get (changed s k f)) (get (changed s k f) k) ≡ get (changed (seen s) k g) k
      here =
          let r = raw_of s k there in
          ap (λ (o : Option Raw). linked_slot (get (changed s k f)) o) (changed-same s k f r.0 r.1)
          ∙ ap Some (shows r.0 r.1 ∙ ap g (same r.0))
          ∙ sym (changed-same (seen s) k g (linked (get s) r.0) (seen-some s k r.0 r.1))

-- a reading through a reference
pub read_is : (s : Slab Raw) (k n : ℕ) (o : Option (Bor Raw)) (b : Bor Raw) → n ≡ k → option_copied o ≡ get s n → o ≡ Some b → get s k ≡ Some b.now
read_is s k n o b i e w =
    let h : option_copied (Some b) ≡ get s n = rw w at e in
    ap (λ (j : ℕ). get s j) (sym i) ∙ sym h

-- a write through a reference
pub write_is : (s : Slab Raw) (k n : ℕ) (o : Option (MutBor Raw)) (b : MutBor Raw) (v : Raw) (f : Raw → Raw) → n ≡ k → option_copied_mut o ≡ get s n → o ≡ Some b → v ≡ f b.now → with_value s n v ≡ changed s k f
write_is s k n o b v f i e w is =
    let g : get s n ≡ Some b.now = at o e w in
    subst (λ (j : ℕ). with_value s n v ≡ changed s j f) i
    (ap (λ (x : Raw). with_value s n x) is ∙ sym (ap (λ (p : Option Raw). changed_at s n f p) g))
  where
    at : (o : Option (MutBor Raw)) → option_copied_mut o ≡ get s n → o ≡ Some b → get s n ≡ Some b.now
    at o e w = let h : option_copied_mut (Some b) ≡ get s n = rw w at e in sym h

-- where the number of a change is no child, the other cells stay
module _ (s t : Slab Raw) (k : ℕ) (o : Option Raw) (U : Updates s t k o) (free : IsNoChild (seen s) k) where
  pub still : (j : ℕ) → j ≢ k → get (seen t) j ≡ get (seen s) j
  still j n = get-seen t j ∙ ap (λ (p : Option Raw). linked_slot (get t) p) (U.others j n) ∙ at (get s j) refl ∙ sym (get-seen s j)
    where
      at : (p : Option Raw) → get s j ≡ p → linked_slot (get t) p ≡ linked_slot (get s) p
      at None e = refl
      at (Some r) e = ap Some (linked-same (get s) (get t) r (λ i x q. ap after (U.others x.number (free j (linked (get s) r) i x (seen-some s j r e) q))))

  pub seen-removed : o ≡ None → Updates (seen s) (seen t) k None
  seen-removed e = record { changed = seen-none t k (U.changed ∙ e); others = still }

  pub seen-inserted : (r : Raw) → o ≡ Some r → r.count ≡ 0 → Updates (seen s) (seen t) k (Some (record { label = r.label; parent = r.parent; kids = [] }))
  seen-inserted r e n = record {
    changed = seen-some t k r (U.changed ∙ e) ∙ ap (λ (m : ℕ). let c : Cell = record { label = r.label; parent = r.parent; kids = row (get t) m r.first } in Some c) n;
    others = still;
  }

-- nodes that are lined up
pub lined-other : (s : Slab Raw) (up : Key) (place : ℕ) (ks : List Key) (j : ℕ) → Apart ks j → get (lined s up place ks) j ≡ get s j
lined-other s up place [] j a = refl
lined-other s up place (k ∷ ks) j a =
    changed-other (lined s up (suc place) ks) k.number (in_row (Some (up, place)) (first_key ks)) j (λ e. a 0 k refl (sym e)) ∙ lined-other s up (suc place) ks j (λ i m e. a (suc i) m e)

pub lined_step : (S s s' : Slab Raw) (up : Key) (ks : List Key) (next : Key) (i : ℕ) (k : Key) → drop (i - 1) ks ≡ k ∷ drop i ks → 0 < i → s ≡ lined S up (i + 1) (drop i ks) → next ≡ first_key (drop i ks) → s' ≡ changed s k.number (in_row (Some (up, i - 1 + 1)) next) → s' ≡ lined S up (i - 1 + 1) (drop (i - 1) ks)
lined_step S s s' up ks next i k d w a b c =
    let z : i + 1 ≡ suc (i - 1 + 1) = omega arith in
    c ∙ ap (λ (t : Slab Raw). changed t k.number (in_row (Some (up, i - 1 + 1)) next)) (a ∙ ap (λ (n : ℕ). lined S up n (drop i ks)) z)
    ∙ ap (λ (x : Key). changed (lined S up (suc (i - 1 + 1)) (drop i ks)) k.number (in_row (Some (up, i - 1 + 1)) x)) b
    ∙ ap (λ (xs : List Key). lined S up (i - 1 + 1) xs) (sym d)

pub lined-some : (s : Slab Raw) (up : Key) (place : ℕ) (ks : List Key) (j : ℕ) → IsSome (get s j) → IsSome (get (lined s up place ks) j)
lined-some s up place [] j h = h
lined-some s up place (k ∷ ks) j h = changed-some (lined s up (suc place) ks) k.number (in_row (Some (up, place)) (first_key ks)) j (lined-some s up (suc place) ks j h)

pub alike-lined : (s : Slab Raw) (up : Key) (place : ℕ) (ks : List Key) → AlikeIn (lined s up place ks) s
alike-lined s up place [] = record { slots = refl; vacant_key = refl; capacity = refl }
alike-lined s up place (k ∷ ks) =
    let t : Slab Raw = lined s up (suc place) ks in
    alike-trans (lined s up place (k ∷ ks)) t s (alike-changed t k.number (in_row (Some (up, place)) (first_key ks))) (alike-lined s up (suc place) ks)

pub lined-kid : (s : Slab Raw) (up : Key) (place : ℕ) (ks : List Key) → AreDistinctKeys ks → (i : ℕ) (k : Key) (r : Raw) → slice_get ks i ≡ Some k → get s k.number ≡ Some r → get (lined s up place ks) k.number ≡ Some (in_row (Some (up, place + i)) (get_or ks (suc i) (record { number = 0 })) r)
lined-kid s up place [] d i k r e f = absurd (cc)
lined-kid s up place (m ∷ ks) d zero k r e f =
    let h : m ≡ k = cc in
    let z : place + 0 ≡ place = omega arith in
    let t : Slab Raw = lined s up (suc place) ks in
    let g : get t m.number ≡ Some r = lined-other s up (suc place) ks m.number (head_apart m ks d) ∙ ap (λ (x : Key). get s x.number) h ∙ f in
    rw z (subst (λ (x : Key). get (lined s up place (m ∷ ks)) x.number ≡ Some (in_row (Some (up, place)) (first_key ks) r)) h (changed-same t m.number (in_row (Some (up, place)) (first_key ks)) r g))
lined-kid s up place (m ∷ ks) d (suc i) k r e f =
    let z : place + suc i ≡ suc place + i = omega arith in
    let n : k.number ≢ m.number = head_apart m ks d i k e in
    rw z (changed-other (lined s up (suc place) ks) m.number (in_row (Some (up, place)) (first_key ks)) k.number n ∙ lined-kid s up (suc place) ks (rest_distinct m ks d) i k r e f)

get_or_of : (ks : List Key) (i : ℕ) (k d : Key) → slice_get ks i ≡ Some k → get_or ks i d ≡ k
get_or_of [] i k d e = absurd (cc)
get_or_of (m ∷ ks) zero k d e = cc
get_or_of (m ∷ ks) (suc i) k d e = get_or_of ks i k d e

pub row-all : (H : ℕ → Option Raw) (ks : List Key) → Follows H ks → row H (length ks) (first_key ks) ≡ ks
row-all H [] f = refl
row-all H (k ∷ ks) f = row-is H k ks f

before-one : (ks : List Key) (i : ℕ) (y : Key) → slice_get ks (suc i) ≡ Some y → (x : Key) × (slice_get ks i ≡ Some x)
before-one [] i y e = absurd (cc)
before-one (k ∷ ks) zero y e = (k, refl)
before-one (k ∷ ks) (suc i) y e = before-one ks i y e

-- a node's children, once they are lined up
module _ (s : Slab Raw) (up : Key) (ks : List Key) (there : IsSome (get (seen s) up.number)) (kids_there : (i : ℕ) (k : Key) → slice_get ks i ≡ Some k → IsSome (get (seen s) k.number))
    (distinct : AreDistinctKeys ks) (apart : Apart ks up.number) (free : AreNoChildren (seen s) up ks) where
  abbrev t : Slab Raw
  t = changed (lined s up 1 ks) up.number (with_row (first_key ks) (length ks))

  at_up : (r : Raw) → get s up.number ≡ Some r → get t up.number ≡ Some (with_row (first_key ks) (length ks) r)
  at_up r e = changed-same (lined s up 1 ks) up.number (with_row (first_key ks) (length ks)) r (lined-other s up 1 ks up.number apart ∙ e)

  at_kid : (i : ℕ) (k : Key) (r : Raw) → slice_get ks i ≡ Some k → get s k.number ≡ Some r → get t k.number ≡ Some (in_row (Some (up, 1 + i)) (get_or ks (suc i) (record { number = 0 })) r)
  at_kid i k r e f = changed-other (lined s up 1 ks) up.number (with_row (first_key ks) (length ks)) k.number (apart i k e) ∙ lined-kid s up 1 ks distinct i k r e f

  at_other : (j : ℕ) → j ≢ up.number → Apart ks j → get t j ≡ get s j
  at_other j n a = changed-other (lined s up 1 ks) up.number (with_row (first_key ks) (length ks)) j n ∙ lined-other s up 1 ks j a

  links_stay : (j : ℕ) → Apart ks j → after (get t j) ≡ after (get s j)
  links_stay j a = elim (cases_eq j up.number) [
    | inl e ↦
        let r = raw_of s up.number there in
        subst (λ (i : ℕ). after (get t i) ≡ after (get s i)) (sym e) (ap after (at_up r.0 r.1) ∙ sym (ap after r.1))
    | inr d ↦ ap after (at_other j d a)
  ]

  follows : Follows (get t) ks
  follows i x y a b =
      let r = raw_of s x.number (kids_there i x a) in
      ap after (at_kid i x r.0 a r.1) ∙ get_or_of ks (suc i) y (record { number = 0 }) b

  other_cell : (j : ℕ) (r : Raw) → j ≢ up.number → get s j ≡ Some r → linked (get t) r ≡ linked (get s) r
  other_cell j r n e = linked-same (get s) (get t) r (λ i x q. links_stay x.number (free j (linked (get s) r) i x n (seen-some s j r e) q))

  others : (j : ℕ) → j ≢ up.number → Apart ks j → (o : Option Raw) → get s j ≡ o → linked_slot (get t) o ≡ linked_slot (get s) o
  others j n a None e = refl
  others j n a (Some r) e = ap Some (other_cell j r n e)

  pub seen-kids : seen (changed (lined s up 1 ks) up.number (with_row (first_key ks) (length ks))) ≡ changed (adopted (seen s) up 1 ks) up.number (with_kids ks)
  seen-kids =
      let v : Slab Cell = changed (adopted (seen s) up 1 ks) up.number (with_kids ks) in
      let a = alike-trans t (lined s up 1 ks) s (alike-changed (lined s up 1 ks) up.number (with_row (first_key ks) (length ks))) (alike-lined s up 1 ks) in
      let b = alike-trans v (adopted (seen s) up 1 ks) (seen s) (alike-changed (adopted (seen s) up 1 ks) up.number (with_kids ks)) (alike-adopted (seen s) up 1 ks) in
      seen-is t v (alike-trans t s v a (alike-sym v s (alike-trans v (seen s) s b (alike-seen s)))) (λ j. elim (cases_eq j up.number) [
        | inl e ↦ subst (λ (i : ℕ). linked_slot (get t) (get t i) ≡ get (changed (adopted (seen s) up 1 ks) up.number (with_kids ks)) i) (sym e) here
        | inr n ↦ elim (among ks j) [
          | inl a ↦
              ap (λ (o : Option Raw). linked_slot (get t) o) (at_other j n a) ∙ others j n a (get s j) refl
              ∙ sym (changed-other (adopted (seen s) up 1 ks) up.number (with_kids ks) j n ∙ adopted-other (seen s) up 1 ks j a ∙ get-seen s j)
          | inr x ↦
              subst (λ (i : ℕ). linked_slot (get t) (get t i) ≡ get (changed (adopted (seen s) up 1 ks) up.number (with_kids ks)) i) x.1.1.1 (kid x.0 x.1.0 x.1.1.0)
        ]
      ])
    where
      here : linked_slot (get t) (get t up.number) ≡ get (changed (adopted (seen s) up 1 ks) up.number (with_kids ks)) up.number
      here =
          let r = raw_of s up.number there in
          ap (λ (o : Option Raw). linked_slot (get t) o) (at_up r.0 r.1)
          ∙ ap (λ (xs : List Key). let c : Cell = record { label = r.0.label; parent = r.0.parent; kids = xs } in Some c) (row-all (get t) ks follows)
          ∙ sym (changed-same (adopted (seen s) up 1 ks) up.number (with_kids ks) (linked (get s) r.0) (adopted-other (seen s) up 1 ks up.number apart ∙ seen-some s up.number r.0 r.1))

      kid : (i : ℕ) (k : Key) → slice_get ks i ≡ Some k → linked_slot (get t) (get t k.number) ≡ get (changed (adopted (seen s) up 1 ks) up.number (with_kids ks)) k.number
      kid i k e =
          let r = raw_of s k.number (kids_there i k e) in
          ap (λ (o : Option Raw). linked_slot (get t) o) (at_kid i k r.0 e r.1)
          ∙ ap (λ (c : Cell). let d : Cell = record { label = c.label; parent = Some (up, 1 + i); kids = c.kids } in Some d) (other_cell k.number r.0 (apart i k e) r.1)
          ∙ sym (changed-other (adopted (seen s) up 1 ks) up.number (with_kids ks) k.number (apart i k e)
          ∙ adopted-kid (seen s) up 1 ks distinct i k (linked (get s) r.0) e (seen-some s k.number r.0 r.1))
