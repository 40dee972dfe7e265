-- The values of the comparisons in a query's postfix code are those with which the query compares.
use Rattle.std.proofs.Common.{◌≡◌, ◌⊎◌, inl, inr, ℕ, List, [], ◌∷◌, ◌++◌, true, false, append_assoc, append-nil, refl, ap, sym, ◌∙◌}
use Rattle.xpath_parser.specs.declared.query.Axis.{Axis}
use Rattle.xpath_parser.specs.declared.postfix.Side.{Side}
use Rattle.xpath_parser.specs.declared.postfix.Op.{Op}
use Rattle.xpath_parser.specs.declared.postfix.Op.TheVariants as ops
use Rattle.xpath_parser.specs.declared.token.Asked.{Asked}
use Rattle.xpath_parser.specs.declared.token.Asked.TheVariants as tests
use Rattle.xpath_parser.specs.declared.token.Operand.{Operand}
use Rattle.xpath_parser.specs.declared.token.Operand.TheVariants as operands
use Rattle.xpath_parser.specs.declared.token.Span.{Span}
use Rattle.xpath_parser.specs.Trees.{Steps, no_steps, then_step, Filters, no_filters, then_filter, Filter, Either, Both, Negated, Told, Found, Compared, Paths, first_path, then_path, steps_on, filters_on, filter_on, paths_on, code_of}
use Rattle.xpath_parser.specs.Queries as queries
use Rattle.xpath_parser.specs.Queries.{with_step, with_filter, with_path}
use Rattle.xpath_parser.specs.Meant.{part, named, compared, meant_steps, meant_filters, meant_filter, meant_paths}
use Rattle.xpath_parser.specs.Comparing.{literals_of_test, literals_of_steps, literals_of_filters, literals_of_filter, literals_of, literals_told}

-- a comparison asks for a text, or for an attribute
pub compared-is : (b : List ℕ) (c : Operand) (v : Span) → ((w : List ℕ) × (compared b c v ≡ queries.text_is w)) ⊎ ((n : List ℕ) × (w : List ℕ) × (compared b c v ≡ queries.attribute_is n w))
compared-is b operands.Texts v = inl (part b v, refl)
compared-is b (operands.Attributes n) v = inr (part b n, part b v, refl)

no-value : (b : List ℕ) (t : Asked) → literals_of_test (named b t) ≡ []
no-value b tests.Star = refl
no-value b (tests.Name n) = refl
no-value b tests.AnyNode = refl
no-value b tests.TextNode = refl
no-value b tests.CommentNode = refl
no-value b tests.InstructionNode = refl

literals-with_step : (ss : queries.Steps) (a : Axis) (t : queries.Test) (fs : queries.Filters) → literals_of_steps (with_step ss a t fs) ≡ literals_of_steps ss ++ (literals_of_test t ++ literals_of_filters fs)
literals-with_step queries.no_steps a t fs = append-nil (literals_of_test t ++ literals_of_filters fs)
literals-with_step (queries.step x u gs ss) a t fs =
    let here : List (List ℕ) = literals_of_test u ++ literals_of_filters gs in
    ap (λ vs. here ++ vs) (literals-with_step ss a t fs) ∙ sym (append_assoc here (literals_of_steps ss) (literals_of_test t ++ literals_of_filters fs))

literals-with_filter : (fs : queries.Filters) (f : queries.Filter) → literals_of_filters (with_filter fs f) ≡ literals_of_filters fs ++ literals_of_filter f
literals-with_filter queries.no_filters f = append-nil (literals_of_filter f)
literals-with_filter (queries.filter_and g fs) f = ap (λ vs. literals_of_filter g ++ vs) (literals-with_filter fs f) ∙ sym (append_assoc (literals_of_filter g) (literals_of_filters fs) (literals_of_filter f))

literals-with_path : (ps : queries.Paths) (ss : queries.Steps) → literals_of (with_path ps ss) ≡ literals_of ps ++ literals_of_steps ss
literals-with_path queries.no_paths ss = append-nil (literals_of_steps ss)
literals-with_path (queries.path_or rs ps) ss = ap (λ vs. literals_of_steps rs ++ vs) (literals-with_path ps ss) ∙ sym (append_assoc (literals_of_steps rs) (literals_of ps) (literals_of_steps ss))

-- two parts, one after the other, put behind what was told
told-both : (x y z v w : List (List ℕ)) → y ≡ x ++ v → z ≡ y ++ w → z ≡ x ++ (v ++ w)
told-both x y z v w e f = f ∙ ap (λ vs. vs ++ w) e ∙ append_assoc x v w

module _ (b : List ℕ) where
  mutual
    filters-told : (fs : Filters) (o : List Op) → literals_told b (filters_on fs o) ≡ literals_told b o ++ literals_of_filters (meant_filters b fs)
    filters-told no_filters o = sym (append-nil (literals_told b o))
    filters-told (then_filter fs f) o =
        told-both _ _ _ _ _ (filters-told fs o) (filter-told f (filters_on fs o)) ∙ ap (λ vs. literals_told b o ++ vs) (sym (literals-with_filter (meant_filters b fs) (meant_filter b f)))

    filter-told : (f : Filter) (o : List Op) → literals_told b (filter_on f o) ≡ literals_told b o ++ literals_of_filter (meant_filter b f)
    filter-told (Either f g) o = told-both _ _ _ _ _ (filter-told f o) (filter-told g (filter_on f o))
    filter-told (Both f g) o = told-both _ _ _ _ _ (filter-told f o) (filter-told g (filter_on f o))
    filter-told (Negated f) o = filter-told f o
    filter-told (Told true) o = sym (append-nil (literals_told b o))
    filter-told (Told false) o = sym (append-nil (literals_told b o))
    filter-told (Found ps) o = paths-told _ ps (ops.Begin ∷ o)
    filter-told (Compared operands.Texts v) o = refl
    filter-told (Compared (operands.Attributes n) v) o = refl

    paths-told : (side : Side) (ps : Paths) (o : List Op) → literals_told b (paths_on side ps o) ≡ literals_told b o ++ literals_of (meant_paths b ps)
    paths-told side (first_path ss) o = steps-told side ss o ∙ ap (λ vs. literals_told b o ++ vs) (sym (append-nil (literals_of_steps (meant_steps b ss))))
    paths-told side (then_path ps ss) o =
        told-both _ _ _ _ _ (paths-told side ps o) (steps-told side ss (ops.Bar side ∷ paths_on side ps o)) ∙ ap (λ vs. literals_told b o ++ vs) (sym (literals-with_path (meant_paths b ps) (meant_steps b ss)))

    steps-told : (side : Side) (ss : Steps) (o : List Op) → literals_told b (steps_on side ss o) ≡ literals_told b o ++ literals_of_steps (meant_steps b ss)
    steps-told side no_steps o = sym (append-nil (literals_told b o))
    steps-told side (then_step ss x t fs) o =
        told-both _ _ _ _ _ (steps-told side ss o) (filters-told fs (ops.Step side x t ∷ steps_on side ss o))
        ∙ ap (λ vs. literals_told b o ++ (literals_of_steps (meant_steps b ss) ++ (vs ++ literals_of_filters (meant_filters b fs)))) (sym (no-value b t))
        ∙ ap (λ vs. literals_told b o ++ vs) (sym (literals-with_step (meant_steps b ss) x (named b t) (meant_filters b fs)))

  pub query-told : (ps : Paths) → literals_told b (code_of ps) ≡ literals_of (meant_paths b ps)
  query-told ps = paths-told _ ps []
