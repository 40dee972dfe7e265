-- Two numberings that pass the same nodes at the tests of a query give it the same answer.
use Rattle.std.proofs.Common.{◌≡◌, ℕ, List, ◌++◌, Bool, refl, ap, ◌∙◌}
use Rattle.std.specs.Prelude.{◌&&◌, ◌||◌, not}
use mathlib.Core.Path.{fun_ext}
use Rattle.xpath_parser.specs.declared.query.Axis.{Axis}
use Rattle.xpath_parser.specs.declared.query.Axis.TheVariants.{Child, Descendant, DescendantOrSelf, SelfNode, FollowingSibling, Attribute}
use Rattle.xpath_parser.specs.Comparing.{literals_of_test, literals_of_steps, literals_of_filters, literals_of_filter, literals_of}
use Rattle.xpath_parser.specs.Meaning.{some_below, is_on_axis, leads_to, are_true, is_true, some_leads, is_answer, listed, answer}
use Rattle.xpath_parser.specs.Numbering.{Numbering}
use Rattle.xpath_parser.specs.Queries.{Test, Steps, no_steps, step, Filters, no_filters, filter_and, Filter, Or, And, Not, True, False, Exists, Paths, no_paths, path_or}
use Rattle.selecting_automaton.proofs.Literals.{AreMarked, marked-front, marked-behind}

module _ (mark : List ℕ → ℕ) (count : ℕ) (extent : ℕ → ℕ) (attribute : ℕ → Bool) (p q : Axis → Test → ℕ → Bool) (same : (a : Axis) (t : Test) → AreMarked mark (literals_of_test t) → (n : ℕ) → p a t n ≡ q a t n) where
  abbrev D : Numbering
  D = record { count = count; extent = extent; attribute = attribute; passes = p }

  abbrev E : Numbering
  E = record { count = count; extent = extent; attribute = attribute; passes = q }

  on-same : (a : Axis) (n m : ℕ) → is_on_axis D a n m ≡ is_on_axis E a n m
  on-same Child n m = refl
  on-same Descendant n m = refl
  on-same DescendantOrSelf n m = refl
  on-same SelfNode n m = refl
  on-same FollowingSibling n m = refl
  on-same Attribute n m = refl

  four : (a b c d e f g h : Bool) → a ≡ b → c ≡ d → e ≡ f → g ≡ h → (a && (c && (e && g))) ≡ (b && (d && (f && h)))
  four a b c d e f g h i j k l = cc

  mutual
    leads-same : (ss : Steps) → AreMarked mark (literals_of_steps ss) → (n m : ℕ) → leads_to D ss n m ≡ leads_to E ss n m
    leads-same no_steps w n m = refl
    leads-same (step a t fs ss) w n m =
        let here : AreMarked mark (literals_of_test t ++ literals_of_filters fs) = marked-front mark (literals_of_test t ++ literals_of_filters fs) (literals_of_steps ss) w in
        let own = marked-front mark (literals_of_test t) (literals_of_filters fs) here in
        let filters = marked-behind mark (literals_of_test t) (literals_of_filters fs) here in
        let later = marked-behind mark (literals_of_test t ++ literals_of_filters fs) (literals_of_steps ss) w in
        ap (λ (P : ℕ → Bool). some_below P count) (fun_ext (λ k.
        four (is_on_axis D a n k) (is_on_axis E a n k) (p a t k) (q a t k) (are_true D fs k) (are_true E fs k) (leads_to D ss k m) (leads_to E ss k m) (on-same a n k) (same a t own k) (filters-same fs filters k)
        (leads-same ss later k m)))

    filters-same : (fs : Filters) → AreMarked mark (literals_of_filters fs) → (n : ℕ) → are_true D fs n ≡ are_true E fs n
    filters-same no_filters w n = refl
    filters-same (filter_and f fs) w n =
        ap (λ b. b && are_true D fs n) (filter-same f (marked-front mark (literals_of_filter f) (literals_of_filters fs) w) n)
        ∙ ap (λ b. is_true E f n && b) (filters-same fs (marked-behind mark (literals_of_filter f) (literals_of_filters fs) w) n)

    filter-same : (f : Filter) → AreMarked mark (literals_of_filter f) → (n : ℕ) → is_true D f n ≡ is_true E f n
    filter-same (Or f g) w n =
        ap (λ b. b || is_true D g n) (filter-same f (marked-front mark (literals_of_filter f) (literals_of_filter g) w) n)
        ∙ ap (λ b. is_true E f n || b) (filter-same g (marked-behind mark (literals_of_filter f) (literals_of_filter g) w) n)
    filter-same (And f g) w n =
        ap (λ b. b && is_true D g n) (filter-same f (marked-front mark (literals_of_filter f) (literals_of_filter g) w) n)
        ∙ ap (λ b. is_true E f n && b) (filter-same g (marked-behind mark (literals_of_filter f) (literals_of_filter g) w) n)
    filter-same (Not f) w n = ap not (filter-same f w n)
    filter-same True w n = refl
    filter-same False w n = refl
    filter-same (Exists ps) w n = paths-same ps w n

    paths-same : (ps : Paths) → AreMarked mark (literals_of ps) → (n : ℕ) → some_leads D ps n ≡ some_leads E ps n
    paths-same no_paths w n = refl
    paths-same (path_or ss ps) w n =
        ap (λ (P : ℕ → Bool). some_below P count || some_leads D ps n) (fun_ext (λ m. leads-same ss (marked-front mark (literals_of_steps ss) (literals_of ps) w) n m))
        ∙ ap (λ b. some_below (leads_to E ss n) count || b) (paths-same ps (marked-behind mark (literals_of_steps ss) (literals_of ps) w) n)

  query-same : (ps : Paths) → AreMarked mark (literals_of ps) → (m : ℕ) → is_answer D ps m ≡ is_answer E ps m
  query-same no_paths w m = refl
  query-same (path_or ss ps) w m =
      ap (λ b. b || is_answer D ps m) (leads-same ss (marked-front mark (literals_of_steps ss) (literals_of ps) w) 0 m)
      ∙ ap (λ b. leads_to E ss 0 m || b) (query-same ps (marked-behind mark (literals_of_steps ss) (literals_of ps) w) m)

  pub answer-same : (ps : Paths) → AreMarked mark (literals_of ps) → answer D ps ≡ answer E ps
  answer-same ps w = ap (λ (P : ℕ → Bool). listed P 0 count) (fun_ext (λ m. query-same ps w m))
