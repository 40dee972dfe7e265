-- Notes in lists where the states of symbols stand apart.
use Rattle.std.proofs.Common.{◌≡◌, ◌<◌, ◌≤◌, ◌-◌, ◌∙◌, ℕ, zero, suc, List, [], ◌∷◌, ◌++◌, Some, length, get_or, take, drop, map, reverse, slice_get, slice_range, All, refl, sym, ap, subst, arith}
use Rattle.std.proofs.lemmas.List.{drop-map, length-append, length-map, map-append, take-map}
use Rattle.std.proofs.lemmas.List.Elements.{All-append, All-head, All-tail, All-weaker}
use Rattle.indexmap.proofs.ReorderLemmas.{map-reverse}
use Rattle.rule_runs.specs.declared.note_list.Brief.{Brief}
use Rattle.rule_runs.specs.declared.note_list.Brief.TheVariants.{Bottom, Param, Symbol, Call}
use Rattle.rule_runs.specs.declared.notes.Note.{Note}
use Rattle.rule_runs.specs.declared.notes.Note.TheVariants.{Symbol as NoteSymbol}
use Rattle.rule_runs.specs.NoteLists.{HasStates, in_full, symbol_over}
use Rattle.rule_runs.proofs.Lists.{all-get, all-one, slice_get-map}

get-front : {X : Type 0} (xs ys : List X) (i : ℕ) → i < length xs → slice_get (xs ++ ys) i ≡ slice_get xs i
get-front [] ys i h = absurd (omega (arith, h))
get-front (x ∷ xs) ys zero h = refl
get-front (x ∷ xs) ys (suc i) h = get-front xs ys i (omega (arith, h))

pub there-more : (n m : ℕ) → n ≤ m → (b : Brief) → HasStates n b → HasStates m b
there-more n m le Bottom h = tt
there-more n m le Param h = tt
there-more n m le (Symbol f place) h = omega (arith, h, le)
there-more n m le (Call pair) h = tt

module _ {S : Type 0} (states more : List (S × S)) where
  one-more : (b : Brief) → HasStates (length states) b → in_full (states ++ more) b ≡ in_full states b
  one-more Bottom h = refl
  one-more Param h = refl
  one-more (Symbol f place) h = ap (symbol_over f) (get-front states more place h)
  one-more (Call pair) h = refl

  -- no note changes where more states are kept behind those of all
  full-more : (bs : List Brief) → All (HasStates (length states)) bs → map (in_full (states ++ more)) bs ≡ map (in_full states) bs
  full-more [] h = refl
  full-more (b ∷ bs) h =
      ap (λ n. n ∷ map (in_full (states ++ more)) bs) (one-more b (All-head (HasStates (length states)) b bs h))
      ∙ ap (λ ns. in_full states b ∷ ns) (full-more bs (All-tail (HasStates (length states)) b bs h))

  pub full-kept : (new : List (S × S)) (bs : List Brief) (notes : List (Note S)) → All (HasStates (length states)) bs → map (in_full states) bs ≡ notes → new ≡ states ++ more → map (in_full new) bs ≡ notes
  full-kept new bs notes h is e = ap (λ ss. map (in_full ss) bs) e ∙ full-more bs h ∙ is

  -- a note is put behind the others
  pub full-push : (new : List (S × S)) (bs both : List Brief) (b : Brief) (notes : List (Note S)) (note : Note S) → All (HasStates (length states)) bs → map (in_full states) bs ≡ notes → new ≡ states ++ more
      → both ≡ bs ++ b ∷ [] → in_full new b ≡ note → map (in_full new) both ≡ notes ++ note ∷ []
  full-push new bs both b notes note h is e p n =
      ap (map (in_full new)) p ∙ map-append (in_full new) bs (b ∷ []) ∙ ap (λ ns. ns ++ in_full new b ∷ []) (full-kept new bs notes h is e) ∙ ap (λ m. notes ++ m ∷ []) n

  pub there-kept : (new : List (S × S)) (bs : List Brief) → All (HasStates (length states)) bs → new ≡ states ++ more → All (HasStates (length new)) bs
  there-kept new bs h e = All-weaker (HasStates (length states)) (HasStates (length new)) (there-more (length states) (length new) (omega (arith, ap length e, length-append states more))) bs h

  pub there-push : (new : List (S × S)) (bs both : List Brief) (b : Brief) → All (HasStates (length states)) bs → new ≡ states ++ more → both ≡ bs ++ b ∷ [] → HasStates (length new) b → All (HasStates (length new)) both
  there-push new bs both b h e p t = subst (All (HasStates (length new))) (sym p) (All-append (HasStates (length new)) bs (b ∷ []) (there-kept new bs h e) (all-one (HasStates (length new)) b t))

-- a part of a list, item by item
pub map-range : {X Y : Type 0} (f : X → Y) (xs : List X) (a b : ℕ) → map f (slice_range xs a b) ≡ slice_range (map f xs) a b
map-range f xs a b = sym (take-map f (b - a) (drop a xs)) ∙ ap (take (b - a)) (sym (drop-map f a xs))

-- the end of a list is turned around
pub map-turned : {X Y : Type 0} (f : X → Y) (xs : List X) (ys : List Y) (a : ℕ) → map f xs ≡ ys → map f (take a xs ++ reverse (drop a xs)) ≡ take a ys ++ reverse (drop a ys)
map-turned f xs ys a e =
    map-append f (take a xs) (reverse (drop a xs))
    ∙ ap (λ zs. zs ++ map f (reverse (drop a xs))) (sym (take-map f a xs) ∙ ap (take a) e)
    ∙ ap (λ zs. take a ys ++ zs) (map-reverse f (drop a xs) ∙ ap reverse (sym (drop-map f a xs) ∙ ap (drop a) e))

get-there : {X : Type 0} (xs : List X) (i : ℕ) (d x : X) → i < length xs → get_or xs i d ≡ x → slice_get xs i ≡ Some x
get-there [] i d x h is = absurd (omega (arith, h))
get-there (y ∷ ys) zero d x h is = ap Some is
get-there (y ∷ ys) (suc i) d x h is = get-there ys i d x (omega (arith, h)) is

-- what stands at a place
module _ {S : Type 0} (states : List (S × S)) (bs : List Brief) (notes : List (Note S)) (are : map (in_full states) bs ≡ notes) (i : ℕ) (within : i < length notes) where
  brief-there : (d b : Brief) → get_or bs i d ≡ b → slice_get bs i ≡ Some b
  brief-there d b is = get-there bs i d b (omega (arith, within, ap length are, length-map bs (in_full states))) is

  pub look : (d b : Brief) → get_or bs i d ≡ b → slice_get notes i ≡ Some (in_full states b)
  look d b is = subst (λ ns. slice_get ns i ≡ Some (in_full states b)) are (slice_get-map (in_full states) bs i b (brief-there d b is))

  pub states-there : (d : Brief) (f place : ℕ) → All (HasStates (length states)) bs → get_or bs i d ≡ Symbol f place → place < length states
  states-there d f place h is = all-get (HasStates (length states)) bs i (Symbol f place) h (brief-there d (Symbol f place) is)

  -- a symbol with the states that stand at its place
  pub look-symbol : (d : Brief) (f place : ℕ) (s : S × S) → All (HasStates (length states)) bs → get_or bs i d ≡ Symbol f place → s ≡ get_or states place s → slice_get notes i ≡ Some (NoteSymbol f s.0 s.1)
  look-symbol d f place s h is at =
      look d (Symbol f place) is ∙ ap (λ o. Some (symbol_over f o)) (get-there states place s s (states-there d f place h is) (sym at))
