-- Tags are scanned to their ends.
use Rattle.std.proofs.Common.{◌≡◌, ℕ, Bool, true, List, [], ◌∷◌, ◌++◌, refl, ap, sym, ◌∙◌, subst, ◌⊎◌, inl, inr, arith}
use Rattle.std.specs.Prelude.{◌==◌, ◌&&◌, not}
use Rattle.std.specs.List.{list_all, flat_map, AllByRecursion}
use Rattle.std.proofs.lemmas.Bool.Decides.{nat_tests}
use Rattle.std.proofs.lemmas.List.Folds.{list_all-append}
use Rattle.plain_tree.specs.XmlNames.{is_name}
use Rattle.xml_tokens.specs.Cutting.{is_other}
use Rattle.xml_tokenizer.specs.Scanning.{scan_step, scanned}
use Rattle.xml_tokens.specs.Markup.{IsStart, IsEnd}
use Rattle.xml_tokens.specs.Attributes.{space_if_white, IsQuoted, IsValue, IsEq, IsAttribute, AreAttributes, Piece, Plain, Referred, IsPiece, piece_text, is_quote}
use Rattle.xml_tokenizer.specs.declared.scan.Scan.TheVariants as at
use Rattle.xml_tokenizer.specs.declared.scan.Step.TheVariants.{On, Whole}
use Rattle.xml_tokens.proofs.Lists.{and_true}
use Rattle.xml_tokens.proofs.Texts.{named_first}
use Rattle.xml_tokens.proofs.Pieces.{is_inner, referred_inner, all_of}
use Rattle.xml_tokenizer.proofs.ScanLaws.{then_scanned, stays}
use Rattle.xml_tokenizer.proofs.ScanPlain.{is_plain, name_is_plain, spaces_plain, white_plain, open_goes, over_plain}

-- quotes, from the tag to the tag
abbrev pub is_quoted : ℕ → ℕ → Bool
is_quoted quote c = is_other quote c && not (c == 60)

both_hold : (p q : ℕ → Bool) (x : List ℕ) → list_all p x ≡ true → list_all q x ≡ true → list_all (λ c. p c && q c) x ≡ true
both_hold p q [] e f = refl
both_hold p q (c ∷ x) e f =
    let a = and_true (p c) (list_all p x) e in
    let b = and_true (q c) (list_all q x) f in
    rw (a.0, b.0, both_hold p q x a.1 b.1) refl

abbrev pub no_less : ℕ → Bool
no_less c = not (c == 60)

inner_no_less : (c : ℕ) → is_inner c ≡ true → no_less c ≡ true
inner_no_less c e = grind (arith, nat_tests)

pieces_no_less : (ps : List Piece) → AllByRecursion IsPiece ps → list_all no_less (flat_map piece_text ps) ≡ true
pieces_no_less [] e = refl
pieces_no_less (Plain c ∷ ps) e = rw (e.0.0, pieces_no_less ps e.1) refl
pieces_no_less (Referred c x ∷ ps) e =
    let r = e.0 in
    let own : list_all no_less x ≡ true = ap (list_all no_less) r.whole ∙ list_all-append no_less r.inner (59 ∷ [])
    ∙ rw (all_of is_inner no_less inner_no_less r.inner (referred_inner r.inner c r.names)) refl in
    list_all-append no_less x (flat_map piece_text ps) ∙ rw (own, pieces_no_less ps e.1) refl

double_stays : (c : ℕ) → is_quoted 34 c ≡ true → scan_step at.Double c ≡ On at.Double
double_stays c e = grind (arith, nat_tests)

single_stays : (c : ℕ) → is_quoted 39 c ≡ true → scan_step at.Single c ≡ On at.Single
single_stays c e = grind (arith, nat_tests)

pub quote_cases : (q : ℕ) → is_quote q ≡ true → (q ≡ 34) ⊎ (q ≡ 39)
quote_cases q e = grind (arith, nat_tests)

quotes_of : (quote : ℕ) → (quote ≡ 34) ⊎ (quote ≡ 39) → (x : List ℕ) → list_all (is_quoted quote) x ≡ true → scanned (On at.Tag) (quote ∷ (x ++ quote ∷ [])) ≡ On at.Tag
quotes_of quote (inl h) x e =
    subst (λ q. scanned (On at.Tag) (q ∷ (x ++ q ∷ [])) ≡ On at.Tag) (sym h)
    (then_scanned (On at.Double) (On at.Double) x (34 ∷ []) (stays at.Double (is_quoted 34) double_stays x (subst (λ q. list_all (is_quoted q) x ≡ true) h e)))
quotes_of quote (inr h) x e =
    subst (λ q. scanned (On at.Tag) (q ∷ (x ++ q ∷ [])) ≡ On at.Tag) (sym h)
    (then_scanned (On at.Single) (On at.Single) x (39 ∷ []) (stays at.Single (is_quoted 39) single_stays x (subst (λ q. list_all (is_quoted q) x ≡ true) h e)))

over_value : (value inner x : List ℕ) → IsValue space_if_white value inner → IsQuoted inner x → scanned (On at.Tag) x ≡ On at.Tag
over_value value inner x v q =
    let less : list_all no_less inner ≡ true = ap (list_all no_less) v.whole ∙ pieces_no_less v.pieces v.each in
    subst (λ z. scanned (On at.Tag) z ≡ On at.Tag) (sym q.whole) (quotes_of q.quote (quote_cases q.quote q.quoted) inner (both_hold (is_other q.quote) no_less inner q.closed less))

over_eq : (x : List ℕ) → IsEq x → scanned (On at.Tag) x ≡ On at.Tag
over_eq x e =
    subst (λ z. scanned (On at.Tag) z ≡ On at.Tag) (sym e.whole)
    (then_scanned (On at.Tag) (On at.Tag) e.space (61 ∷ e.after) (over_plain e.space (spaces_plain e.space e.spaced)) ∙ over_plain e.after (spaces_plain e.after e.spaced_after))

over : (x y : List ℕ) → scanned (On at.Tag) x ≡ On at.Tag → scanned (On at.Tag) (x ++ y) ≡ scanned (On at.Tag) y
over x y e = then_scanned (On at.Tag) (On at.Tag) x y e

over_attribute : (n v x : List ℕ) → IsAttribute n v x → scanned (On at.Tag) x ≡ On at.Tag
over_attribute n v x a =
    subst (λ z. scanned (On at.Tag) z ≡ On at.Tag) (sym a.whole)
    (over a.space (n ++ (a.eq ++ a.quotes)) (over_plain a.space (white_plain a.space a.spaced)) ∙ over n (a.eq ++ a.quotes) (over_plain n (name_is_plain n a.named))
    ∙ over a.eq a.quotes (over_eq a.eq a.is_eq) ∙ over_value v a.inner a.quotes a.is_value a.quoted)

over_attributes : (attributes : List (List ℕ × List ℕ)) (x : List ℕ) → AreAttributes attributes x → scanned (On at.Tag) x ≡ On at.Tag
over_attributes [] x a = rw a refl
over_attributes ((n, v) ∷ attributes) x (y, rest, a, others, whole) =
    subst (λ z. scanned (On at.Tag) z ≡ On at.Tag) (sym whole) (over y rest (over_attribute n v y a) ∙ over_attributes attributes rest others)

-- behind < a name is a tag's
first_name : (x : List ℕ) → is_name x ≡ true → scanned (On at.Open) x ≡ On at.Tag
first_name x n =
    let f = named_first x n in
    let both = and_true (is_plain f.0) (list_all is_plain f.1) (subst (λ z. list_all is_plain z ≡ true) f.2 (name_is_plain x n)) in
    subst (λ z. scanned (On at.Open) z ≡ On at.Tag) (sym f.2) (ap (λ z. scanned z f.1) (open_goes f.0 both.0) ∙ over_plain f.1 both.1)

pub scans_start : (n : List ℕ) (attributes : List (List ℕ × List ℕ)) (close x : List ℕ) → scanned (On at.Tag) close ≡ Whole → IsStart n attributes close x → scanned (On at.Idle) x ≡ Whole
scans_start n attributes close x w s =
    subst (λ z. scanned (On at.Idle) z ≡ Whole) (sym s.whole)
    (then_scanned (On at.Open) (On at.Tag) n (s.inner ++ (s.space ++ close)) (first_name n s.named) ∙ over s.inner (s.space ++ close) (over_attributes attributes s.inner s.given)
    ∙ over s.space close (over_plain s.space (spaces_plain s.space s.spaced)) ∙ w)

pub scans_end : (n x : List ℕ) → IsEnd n x → scanned (On at.Idle) x ≡ Whole
scans_end n x s =
    subst (λ z. scanned (On at.Idle) z ≡ Whole) (sym s.whole)
    (over n (s.space ++ 62 ∷ []) (over_plain n (name_is_plain n s.named)) ∙ over s.space (62 ∷ []) (over_plain s.space (spaces_plain s.space s.spaced)))
