-- Values that are read one after another from the front of bytes.
use Rattle.std.proofs.Common.{◌≡◌, ℕ, ◌<◌, ◌≤◌, List, [], ◌∷◌, ◌++◌, length, refl, sym, ap, ◌∙◌, subst, arith, append_assoc, append-nil, length-append}
use Rattle.std.specs.List.{flat_map}
use Rattle.std.specs.Prelude.{Result, Err}
use Rattle.std.proofs.lemmas.Grind.{flat_map-append}
use Rattle.grammar_file.specs.FileBytes.{list_bytes}
use Rattle.grammar_file.specs.Numbers.{number_bytes}
use Rattle.grammar_file.specs.Reading.{BeginsNone, Fails}
use Rattle.grammar_file.specs.declared.error.FileError.{FileError}
use Rattle.grammar_file.specs.declared.error.FileError.TheVariants.{Bad, TooMany, Memory}
use Rattle.grammar_file.proofs.Unique.{number-unique}

-- a part was refused, and so the whole is
pub fails_too : {P Q : Type 0} (e : FileError) → (P → Q) → Fails e P → Fails e Q
fails_too Bad so h = so h
fails_too TooMany so h = h
fails_too Memory so h = tt

-- where the answer is Bad, so it was of the part
pub refused : {T P Q : Type 0} (r : Result T FileError) (y e : FileError) → r ≡ Err y → y ≡ e → (P → Q) → Fails e P → r ≡ Err Bad → Q
refused {T} {P} {Q} r y e is same so h bad = let was : e ≡ Bad = cc in so (subst (λ x. Fails x P) was h)

-- Some values were read. Each list of the sort whose bytes stand at the start begins with them, and the bytes of the others are left.
pub record IsReading {A : Type 0} (sort : List A → Type 0) (f : A → List ℕ) (start : List ℕ) (done : List A) (left : List ℕ) : Type 0 where
  pub shape : start ≡ flat_map f done ++ left
  pub told : (xs : List A) (more : List ℕ) → sort xs → start ≡ flat_map f xs ++ more → (rest : List A) × (xs ≡ done ++ rest) × (left ≡ flat_map f rest ++ more)

module _ {A : Type 0} (sort : List A → Type 0) (f : A → List ℕ) (start : List ℕ) where
  pub reading_begins : IsReading sort f start [] start
  reading_begins = record { shape = refl; told = λ xs more s e. (xs, refl, e) }

  -- one value more
  pub reading_goes : (done : List A) (left new : List ℕ) (x : A) → IsReading sort f start done left → left ≡ f x ++ new → (sort done → ⊥)
      → ((y : A) (rest : List A) (more : List ℕ) → sort (done ++ y ∷ rest) → f x ++ new ≡ f y ++ more → (x ≡ y) × (new ≡ more))
      → IsReading sort f start (done ++ x ∷ []) new
  reading_goes done left new x r e some one = record {
    shape = r.shape ∙ ap (λ z. flat_map f done ++ z) e ∙ sym (append_assoc (flat_map f done) (f x) new) ∙ ap (λ z. z ++ new) all;
    told = λ xs more s is. let t = r.told xs more s is in step xs more s t.0 t.1 t.2;
  }
    where
      all : flat_map f done ++ f x ≡ flat_map f (done ++ x ∷ [])
      all = ap (λ z. flat_map f done ++ z) (sym (append-nil (f x))) ∙ sym (flat_map-append f done (x ∷ []))

      step : (xs : List A) (more : List ℕ) → sort xs → (rest : List A) → xs ≡ done ++ rest → left ≡ flat_map f rest ++ more
          → (others : List A) × (xs ≡ (done ++ x ∷ []) ++ others) × (new ≡ flat_map f others ++ more)
      step xs more s [] is l = absurd (some (subst sort (is ∙ append-nil done) s))
      step xs more s (y ∷ rest) is l =
          let same = one y rest (flat_map f rest ++ more) (subst sort is s) (sym e ∙ l ∙ append_assoc (f y) (flat_map f rest) more) in
          (rest, is ∙ ap (λ z. done ++ z ∷ rest) (sym same.0) ∙ sym (append_assoc done (x ∷ []) rest), same.1)

  -- no value of the sort that comes next stands at the front of what is left
  pub reading_fails : (done : List A) (left : List ℕ) (next : A → Type 0) → IsReading sort f start done left → (sort done → ⊥)
      → ((y : A) (rest : List A) → sort (done ++ y ∷ rest) → next y) → BeginsNone next f left → BeginsNone sort (flat_map f) start
  reading_fails done left next r some each bad xs more s is = let t = r.told xs more s is in step t.0 t.1 t.2
    where
      step : (rest : List A) → xs ≡ done ++ rest → left ≡ flat_map f rest ++ more → ⊥
      step [] e l = some (subst sort (e ∙ append-nil done) s)
      step (y ∷ rest) e l = bad y (flat_map f rest ++ more) (each y rest (subst sort e s)) (l ∙ append_assoc (f y) (flat_map f rest) more)

-- ---- lists behind their counts
abbrev pub Counted : {A : Type 0} → (List A → Type 0) → ℕ → List A → Type 0
Counted sort count xs = sort xs × (length xs ≡ count)

module _ {A : Type 0} (sort : List A → Type 0) (f : A → List ℕ) (old : List ℕ) where
  -- the count is none
  pub count_fails : ((x : A) → 0 < length (f x)) → BeginsNone (λ n. n ≤ length old) number_bytes old → BeginsNone sort (list_bytes f) old
  count_fails some bad xs more s e =
      let parts = e ∙ append_assoc (number_bytes (length xs)) (flat_map f xs) more in
      let fits : length xs ≤ length old = omega (arith, each xs, ap length parts, length-append (number_bytes (length xs)) (flat_map f xs ++ more), length-append (flat_map f xs) more) in
      bad (length xs) (flat_map f xs ++ more) fits parts
    where
      each : (ys : List A) → length ys ≤ length (flat_map f ys)
      each [] = omega arith
      each (y ∷ ys) = omega (arith, some y, each ys, length-append (f y) (flat_map f ys))

  -- no list of this count follows
  pub list_fails : (count : ℕ) (start : List ℕ) → old ≡ number_bytes count ++ start → BeginsNone (Counted sort count) (flat_map f) start → BeginsNone sort (list_bytes f) old
  list_fails count start e bad xs more s is =
      let told = number-unique count (length xs) start (flat_map f xs ++ more) (sym e ∙ is ∙ append_assoc (number_bytes (length xs)) (flat_map f xs) more) in
      bad xs more (s, sym told.0) told.1

  pub list_read : (count : ℕ) (start : List ℕ) (done : List A) (left : List ℕ) → old ≡ number_bytes count ++ start → IsReading (Counted sort count) f start done left → length done ≡ count
      → old ≡ list_bytes f done ++ left
  list_read count start done left e r n =
      e ∙ ap (λ z. z ++ start) (ap number_bytes (sym n)) ∙ ap (λ z. number_bytes (length done) ++ z) r.shape ∙ sym (append_assoc (number_bytes (length done)) (flat_map f done) left)
