-- Nothing that may end a document ends a token that has begun: over it the scan never says Whole.
use Rattle.std.proofs.Common.{◌≡◌, ◌≢◌, ℕ, Bool, true, false, List, [], ◌∷◌, ◌++◌, refl, ap, sym, ◌∙◌, subst, inl, inr, append_assoc}
use Rattle.std.specs.Prelude.{◌==◌, ◌&&◌, ◌||◌, not}
use Rattle.std.specs.List.{list_all, flat_map, AllByRecursion}
use Rattle.std.proofs.lemmas.Bool.Decides.{nat_tests}
use Rattle.std.proofs.Common.{arith}
use Rattle.xml_tokenizer.specs.declared.scan.Scan.{Scan}
use Rattle.xml_tokenizer.specs.declared.scan.Scan.TheVariants as at
use Rattle.xml_tokenizer.specs.declared.scan.Step.{Step}
use Rattle.xml_tokenizer.specs.declared.scan.Step.TheVariants.{On, Whole, Dead}
use Rattle.plain_tree.specs.Lawful.{IsName}
use Rattle.xml_nodes.specs.Place.{ending_tag, IsEnding}
use Rattle.xml_tokenizer.specs.Scanning.{scan_step, scanned}
use Rattle.xml_nodes.proofs.CharacterLemmas.{and_true}

-- inside a comment, a section, an instruction or a literal, or dead
abbrev pub lasts : Step → Bool
lasts (On at.Comment) = true
lasts (On at.CommentDash) = true
lasts (On at.CommentEnd) = true
lasts (On at.Section) = true
lasts (On at.Instruction) = true
lasts (On at.DoctypeDouble) = true
lasts (On at.DoctypeSingle) = true
lasts (On at.Idle) = false
lasts (On at.One) = false
lasts (On at.Two) = false
lasts (On at.Three) = false
lasts (On at.Reference) = false
lasts (On at.Open) = false
lasts (On at.Tag) = false
lasts (On at.Double) = false
lasts (On at.Single) = false
lasts (On at.Bang) = false
lasts (On at.Dash) = false
lasts (On at.Bracket) = false
lasts (On at.Brackets) = false
lasts (On at.Doctype) = false
lasts (On at.InstructionEnd) = false
lasts Whole = false
lasts Dead = true

-- behind < every token that has begun is dead, or lasts
pub less_lasts : (s : Scan) → s ≢ at.Idle → lasts (scan_step s 60) ≡ true
less_lasts at.Idle h = absurd (h refl)
less_lasts at.One h = refl
less_lasts at.Two h = refl
less_lasts at.Three h = refl
less_lasts at.Reference h = refl
less_lasts at.Open h = refl
less_lasts at.Tag h = refl
less_lasts at.Double h = refl
less_lasts at.Single h = refl
less_lasts at.Bang h = refl
less_lasts at.Dash h = refl
less_lasts at.Comment h = refl
less_lasts at.CommentDash h = refl
less_lasts at.CommentEnd h = refl
less_lasts at.Section h = refl
less_lasts at.Bracket h = refl
less_lasts at.Brackets h = refl
less_lasts at.Doctype h = refl
less_lasts at.DoctypeDouble h = refl
less_lasts at.DoctypeSingle h = refl
less_lasts at.Instruction h = refl
less_lasts at.InstructionEnd h = refl

-- one step of an ending's bytes
abbrev pub stepped : Step → ℕ → Step
stepped s c = scanned s (c ∷ [])

-- neither ] nor ? nor a quote; a > may stand only where no - is just before
pub name_lasts : (s : Step) (c : ℕ) → lasts s ≡ true → (c == 93 || c == 63 || c == 34 || c == 39 || c == 62) ≡ false → lasts (stepped s c) ≡ true
name_lasts (On at.Comment) c l e = grind (arith, nat_tests)
name_lasts (On at.CommentDash) c l e = grind (arith, nat_tests)
name_lasts (On at.CommentEnd) c l e = grind (arith, nat_tests)
name_lasts (On at.Section) c l e = grind (arith, nat_tests)
name_lasts (On at.Instruction) c l e = grind (arith, nat_tests)
name_lasts (On at.DoctypeDouble) c l e = grind (arith, nat_tests)
name_lasts (On at.DoctypeSingle) c l e = grind (arith, nat_tests)
name_lasts Dead c l e = refl
name_lasts _ c l e = cc

-- the scan never says Whole over these bytes
abbrev is_whole : Step → Bool
is_whole (On t) = false
is_whole Whole = true
is_whole Dead = false

abbrev never : Step → List ℕ → Bool
never s [] = not (is_whole s)
never s (c ∷ cs) = not (is_whole s) && never (stepped s c) cs

pub never_whole : (s : Step) (bytes over after : List ℕ) → never s bytes ≡ true → bytes ≡ over ++ after → scanned s over ≡ Whole → ⊥
never_whole (On t) bytes [] after n e w = cc
never_whole Dead bytes [] after n e w = cc
never_whole Whole [] [] after n e w = cc
never_whole Whole (c ∷ bytes) [] after n e w = cc
never_whole s [] (d ∷ over) after n e w = cc
never_whole Whole (c ∷ bytes) (d ∷ over) after n e w = cc
never_whole Dead (c ∷ bytes) (d ∷ over) after n e w = cc
never_whole (On t) (c ∷ bytes) (d ∷ over) after n e w =
    let heads : d ≡ c = cc in
    let rest : bytes ≡ over ++ after = cc in
    never_whole (scan_step t c) bytes over after n rest (subst (λ z. scanned (scan_step t z) over ≡ Whole) heads w)

not_whole : (s : Step) → lasts s ≡ true → is_whole s ≡ false
not_whole (On t) l = refl
not_whole Whole l = cc
not_whole Dead l = refl

never_more : (s : Step) (c : ℕ) (bytes : List ℕ) → lasts s ≡ true → never (stepped s c) bytes ≡ true → never s (c ∷ bytes) ≡ true
never_more s c bytes l n = rw (not_whole s l, n) refl

never_none : (s : Step) → lasts s ≡ true → never s [] ≡ true
never_none s l = rw (not_whole s l) refl

-- bytes of a name
abbrev pub is_safe : ℕ → Bool
is_safe c = not ((c == 93 || c == 63 || c == 34 || c == 39 || c == 62) || (c == 60 || c == 13 || c == 10))

safe_lasts : (s : Step) (c : ℕ) → lasts s ≡ true → is_safe c ≡ true → lasts (stepped s c) ≡ true
safe_lasts s c l e = name_lasts s c l (by_tests (c == 93 || c == 63 || c == 34 || c == 39 || c == 62) (c == 60 || c == 13 || c == 10) e) where
  by_tests : (a b : Bool) → not (a || b) ≡ true → a ≡ false
  by_tests true b h = cc
  by_tests false b h = refl

over_name : (s : Step) (name bytes : List ℕ) → lasts s ≡ true → list_all is_safe name ≡ true → ((t : Step) → lasts t ≡ true → never t bytes ≡ true) → never s (name ++ bytes) ≡ true
over_name s [] bytes l e next = next s l
over_name s (c ∷ name) bytes l e next =
    let both = and_true (is_safe c) (list_all is_safe name) e in
    never_more s c (name ++ bytes) l (over_name (stepped s c) name bytes (safe_lasts s c l both.0) both.1 next)

-- behind a name: a space and >
close_lasts : (s : Step) → lasts s ≡ true → lasts (stepped (stepped s 32) 62) ≡ true
close_lasts (On at.Comment) l = refl
close_lasts (On at.CommentDash) l = refl
close_lasts (On at.CommentEnd) l = refl
close_lasts (On at.Section) l = refl
close_lasts (On at.Instruction) l = refl
close_lasts (On at.DoctypeDouble) l = refl
close_lasts (On at.DoctypeSingle) l = refl
close_lasts Dead l = refl
close_lasts _ l = cc

-- </ and a/>
open_lasts : (s : Step) → lasts s ≡ true → lasts (stepped s 60) ≡ true
open_lasts (On at.Comment) l = refl
open_lasts (On at.CommentDash) l = refl
open_lasts (On at.CommentEnd) l = refl
open_lasts (On at.Section) l = refl
open_lasts (On at.Instruction) l = refl
open_lasts (On at.DoctypeDouble) l = refl
open_lasts (On at.DoctypeSingle) l = refl
open_lasts Dead l = refl
open_lasts _ l = cc

over_empty : (s : Step) → lasts s ≡ true → never s (97 ∷ 47 ∷ 62 ∷ []) ≡ true
over_empty (On at.Comment) l = refl
over_empty (On at.CommentDash) l = refl
over_empty (On at.CommentEnd) l = refl
over_empty (On at.Section) l = refl
over_empty (On at.Instruction) l = refl
over_empty (On at.DoctypeDouble) l = refl
over_empty (On at.DoctypeSingle) l = refl
over_empty Dead l = refl
over_empty _ l = cc

module _ (safe : (name : List ℕ) → IsName name → list_all is_safe name ≡ true) where
  -- behind the < of an end tag
  over_tag : (name bytes : List ℕ) (s : Step) → IsName name → lasts s ≡ true → ((t : Step) → lasts t ≡ true → never t bytes ≡ true)
      → never s (47 ∷ (name ++ 32 ∷ 62 ∷ bytes)) ≡ true
  over_tag name bytes s n l next =
      never_more s 47 (name ++ 32 ∷ 62 ∷ bytes) l
      (over_name (stepped s 47) name (32 ∷ 62 ∷ bytes) (safe_lasts s 47 l refl) (safe name n)
      (λ t k. never_more t 32 (62 ∷ bytes) k (never_more (stepped t 32) 62 bytes (safe_lasts t 32 k refl) (next (stepped (stepped t 32) 62) (close_lasts t k)))))

  tag_shape : (name rest : List ℕ) → (60 ∷ 47 ∷ (name ++ 32 ∷ 62 ∷ [])) ++ rest ≡ 60 ∷ 47 ∷ (name ++ 32 ∷ 62 ∷ rest)
  tag_shape name rest = ap (λ z. 60 ∷ 47 ∷ z) (append_assoc name (32 ∷ 62 ∷ []) rest)

  over_tags : (names : List (List ℕ)) (s : Step) → AllByRecursion IsName names → lasts s ≡ true → never s (flat_map ending_tag names) ≡ true
  over_tags [] s all l = never_none s l
  over_tags (n ∷ names) s all l =
      subst (λ z. never s z ≡ true) (sym (tag_shape n (flat_map ending_tag names)))
      (never_more s 60 (47 ∷ (n ++ 32 ∷ 62 ∷ flat_map ending_tag names)) l
      (over_tag n (flat_map ending_tag names) (stepped s 60) all.0 (open_lasts s l) (λ t k. over_tags names t all.1 k)))

  -- over an ending, a scan that isn't idle never says Whole
  pub over_ending : (s : Scan) (e : List ℕ) → s ≢ at.Idle → IsEnding e → never (On s) e ≡ true
  over_ending s e h (inl is) = rw is refl
  over_ending s e h (inr (inl is)) = rw is (over_empty (scan_step s 60) (less_lasts s h))
  over_ending s e h (inr (inr ([], all, is))) = rw is refl
  over_ending s e h (inr (inr (n ∷ names, all, is))) =
      subst (λ z. never (On s) z ≡ true) (sym (is ∙ tag_shape n (flat_map ending_tag names)))
      (over_tag n (flat_map ending_tag names) (scan_step s 60) all.0 (less_lasts s h) (λ t k. over_tags names t all.1 k))
