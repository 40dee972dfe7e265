-- The declaration and the DOCTYPE are scanned to their ends.
use Rattle.std.proofs.Common.{◌≡◌, ℕ, Bool, true, false, List, [], ◌∷◌, ◌++◌, refl, ap, sym, ◌∙◌, subst, ◌⊎◌, inl, inr, arith}
use Rattle.std.specs.Prelude.{codes, ◌==◌, ◌&&◌, ◌||◌, map}
use Rattle.std.specs.List.{list_all}
use Rattle.std.specs.Str.{bytes_eq}
use Rattle.std.proofs.lemmas.Bool.Decides.{nat_tests}
use Rattle.std.proofs.lemmas.List.Folds.{list_all-append}
use Rattle.plain_tree.specs.XmlNames.{are_chars}
use Rattle.xml_tokens.specs.Cutting.{is_other}
use Rattle.xml_tokenizer.specs.Scanning.{scan_step, scanned}
use Rattle.xml_tokens.specs.References.{is_digit, are_digits}
use Rattle.xml_tokens.specs.Declarations.{IsDeclaration, IsDoctype, IsItem, IsLiteral, IsNamed, IsExternal, Maybe, is_version, is_encoding, is_yes_or_no, small, are_public}
use Rattle.xml_tokens.specs.Attributes.{IsQuoted, IsEq, is_quote}
use Rattle.xml_tokenizer.specs.declared.scan.Scan.TheVariants as at
use Rattle.xml_tokenizer.specs.declared.scan.Step.TheVariants.{On, Whole}
use Rattle.xml_tokens.proofs.Lists.{and_true, same_number, same_bytes}
use Rattle.xml_tokens.proofs.Pieces.{all_of}
use Rattle.xml_tokenizer.proofs.ScanLaws.{then_scanned, stays}
use Rattle.xml_tokenizer.proofs.ScanPlain.{is_plain, name_is_plain, spaces_plain, white_plain}
use Rattle.xml_tokenizer.proofs.ScanMarks.{question_end, no_question, over_inside, plain_no_question}
use Rattle.xml_tokenizer.proofs.ScanTags.{quote_cases}

-- a declaration has no ? but at its end
all_two : (p : ℕ → Bool) (x y : List ℕ) → list_all p x ≡ true → list_all p y ≡ true → list_all p (x ++ y) ≡ true
all_two p x y e f = list_all-append p x y ∙ rw (e, f) refl

eq_questions : (x : List ℕ) → IsEq x → list_all no_question x ≡ true
eq_questions x e =
    ap (list_all no_question) e.whole
    ∙ all_two no_question e.space (61 ∷ e.after) (plain_no_question e.space (spaces_plain e.space e.spaced)) (plain_no_question e.after (spaces_plain e.after e.spaced_after))

quote_question : (q : ℕ) → is_quote q ≡ true → no_question q ≡ true
quote_question q e = grind (arith, nat_tests)

quoted_questions : (inner x : List ℕ) → IsQuoted inner x → list_all no_question inner ≡ true → list_all no_question x ≡ true
quoted_questions inner x q e =
    ap (list_all no_question) q.whole ∙ rw (quote_question q.quote q.quoted, all_two no_question inner (q.quote ∷ []) e (rw (quote_question q.quote q.quoted) refl)) refl

digit_question : (c : ℕ) → is_digit 10 c ≡ true → no_question c ≡ true
digit_question c e = grind (arith, nat_tests)

digits_questions : (x : List ℕ) → are_digits 10 x ≡ true → list_all no_question x ≡ true
digits_questions [] e = refl
digits_questions (c ∷ x) e = all_of (is_digit 10) no_question digit_question (c ∷ x) e

version_questions : (x : List ℕ) → is_version x ≡ true → list_all no_question x ≡ true
version_questions [] e = cc
version_questions (a ∷ []) e = cc
version_questions (a ∷ b ∷ digits) e =
    let one = and_true ((a == 49) && (b == 46)) (are_digits 10 digits) e in
    let two = and_true (a == 49) (b == 46) one.0 in
    rw (same_number a 49 two.0, same_number b 46 two.1, digits_questions digits one.1) refl

small_question : (c : ℕ) → no_question (small c) ≡ true → no_question c ≡ true
small_question c e = grind (arith, nat_tests)

small_questions : (x : List ℕ) → list_all no_question (map small x) ≡ true → list_all no_question x ≡ true
small_questions [] e = refl
small_questions (c ∷ x) e =
    let both = and_true (no_question (small c)) (list_all no_question (map small x)) e in
    rw (small_question c both.0, small_questions x both.1) refl

or_cases : (a b : Bool) → (a || b) ≡ true → (a ≡ true) ⊎ (b ≡ true)
or_cases true b e = inl refl
or_cases false b e = inr e

encoding_questions : (x : List ℕ) → is_encoding x ≡ true → list_all no_question x ≡ true
encoding_questions x e = small_questions x (by (or_cases _ (bytes_eq (map small x) _) e)) where
  by : (((bytes_eq (map small x) (117 ∷ 116 ∷ 102 ∷ 45 ∷ 56 ∷ []) || bytes_eq (map small x) (117 ∷ 115 ∷ 45 ∷ 97 ∷ 115 ∷ 99 ∷ 105 ∷ 105 ∷ [])) ≡ true)
      ⊎ (bytes_eq (map small x) (97 ∷ 115 ∷ 99 ∷ 105 ∷ 105 ∷ []) ≡ true))
      → list_all no_question (map small x) ≡ true
  by (inr h) = ap (list_all no_question) (same_bytes (map small x) _ h)
  by (inl h) = elim (or_cases (bytes_eq (map small x) (117 ∷ 116 ∷ 102 ∷ 45 ∷ 56 ∷ [])) _ h) [
    | inl k ↦ ap (list_all no_question) (same_bytes (map small x) _ k)
    | inr k ↦ ap (list_all no_question) (same_bytes (map small x) _ k)
  ]

yes_questions : (x : List ℕ) → is_yes_or_no x ≡ true → list_all no_question x ≡ true
yes_questions x e = elim (or_cases (bytes_eq x (121 ∷ 101 ∷ 115 ∷ [])) _ e) [
  | inl k ↦ ap (list_all no_question) (same_bytes x _ k)
  | inr k ↦ ap (list_all no_question) (same_bytes x _ k)
]

item_questions : (word : List ℕ) (test : List ℕ → Bool) → list_all no_question word ≡ true → ((y : List ℕ) → test y ≡ true → list_all no_question y ≡ true)
    → (x : List ℕ) → IsItem word test x → list_all no_question x ≡ true
item_questions word test w h x i =
    ap (list_all no_question) i.whole
    ∙ all_two no_question i.space (word ++ (i.eq ++ i.quotes)) (plain_no_question i.space (white_plain i.space i.spaced))
    (all_two no_question word (i.eq ++ i.quotes) w (all_two no_question i.eq i.quotes (eq_questions i.eq i.is_eq) (quoted_questions i.inner i.quotes i.quoted (h i.inner i.lawful))))

maybe_questions : (word : List ℕ) (test : List ℕ → Bool) → list_all no_question word ≡ true → ((y : List ℕ) → test y ≡ true → list_all no_question y ≡ true)
    → (x : List ℕ) → Maybe (IsItem word test) x → list_all no_question x ≡ true
maybe_questions word test w h x (inl e) = ap (list_all no_question) e
maybe_questions word test w h x (inr i) = item_questions word test w h x i

inside : (x y : List ℕ) → list_all no_question x ≡ true → scanned (On at.Instruction) (x ++ y) ≡ scanned (On at.Instruction) y
inside x y e = then_scanned (On at.Instruction) (On at.Instruction) x y (over_inside x e)

pub scans_declaration : (x : List ℕ) → IsDeclaration x → scanned (On at.Idle) x ≡ Whole
scans_declaration x i =
    subst (λ z. scanned (On at.Idle) z ≡ Whole) (sym i.whole)
    (inside i.version (i.encoding ++ (i.standalone ++ (i.space ++ question_end))) (item_questions (codes "version") is_version refl version_questions i.version i.versioned)
    ∙ inside i.encoding (i.standalone ++ (i.space ++ question_end)) (maybe_questions (codes "encoding") is_encoding refl encoding_questions i.encoding i.encoded)
    ∙ inside i.standalone (i.space ++ question_end) (maybe_questions (codes "standalone") is_yes_or_no refl yes_questions i.standalone i.alone)
    ∙ inside i.space question_end (plain_no_question i.space (spaces_plain i.space i.spaced)))

-- a DOCTYPE has no > outside its quotes but at its end
doctype_stays : (c : ℕ) → is_plain c ≡ true → scan_step at.Doctype c ≡ On at.Doctype
doctype_stays c e = grind (arith, nat_tests)

type_double_stays : (c : ℕ) → is_other 34 c ≡ true → scan_step at.DoctypeDouble c ≡ On at.DoctypeDouble
type_double_stays c e = grind (arith, nat_tests)

type_single_stays : (c : ℕ) → is_other 39 c ≡ true → scan_step at.DoctypeSingle c ≡ On at.DoctypeSingle
type_single_stays c e = grind (arith, nat_tests)

type_quotes : (quote : ℕ) → (quote ≡ 34) ⊎ (quote ≡ 39) → (x : List ℕ) → list_all (is_other quote) x ≡ true → scanned (On at.Doctype) (quote ∷ (x ++ quote ∷ [])) ≡ On at.Doctype
type_quotes quote (inl h) x e =
    subst (λ q. scanned (On at.Doctype) (q ∷ (x ++ q ∷ [])) ≡ On at.Doctype) (sym h)
    (then_scanned (On at.DoctypeDouble) (On at.DoctypeDouble) x (34 ∷ []) (stays at.DoctypeDouble (is_other 34) type_double_stays x (subst (λ q. list_all (is_other q) x ≡ true) h e)))
type_quotes quote (inr h) x e =
    subst (λ q. scanned (On at.Doctype) (q ∷ (x ++ q ∷ [])) ≡ On at.Doctype) (sym h)
    (then_scanned (On at.DoctypeSingle) (On at.DoctypeSingle) x (39 ∷ []) (stays at.DoctypeSingle (is_other 39) type_single_stays x (subst (λ q. list_all (is_other q) x ≡ true) h e)))

type_over : (x y : List ℕ) → scanned (On at.Doctype) x ≡ On at.Doctype → scanned (On at.Doctype) (x ++ y) ≡ scanned (On at.Doctype) y
type_over x y e = then_scanned (On at.Doctype) (On at.Doctype) x y e

type_plain : (x : List ℕ) → list_all is_plain x ≡ true → scanned (On at.Doctype) x ≡ On at.Doctype
type_plain x e = stays at.Doctype is_plain doctype_stays x e

over_literal : (test : List ℕ → Bool) (x : List ℕ) → IsLiteral test x → scanned (On at.Doctype) x ≡ On at.Doctype
over_literal test x i =
    subst (λ z. scanned (On at.Doctype) z ≡ On at.Doctype) (sym i.whole)
    (type_over i.space i.quotes (type_plain i.space (white_plain i.space i.spaced))
    ∙ subst (λ z. scanned (On at.Doctype) z ≡ On at.Doctype) (sym i.quoted.whole) (type_quotes i.quoted.quote (quote_cases i.quoted.quote i.quoted.quoted) i.inner i.quoted.closed))

over_named : (x : List ℕ) → IsNamed x → scanned (On at.Doctype) x ≡ On at.Doctype
over_named x (inl (system, q, e)) =
    subst (λ z. scanned (On at.Doctype) z ≡ On at.Doctype) (sym e) (type_over (codes "SYSTEM") system (type_plain (codes "SYSTEM") refl) ∙ over_literal are_chars system q)
over_named x (inr (public, system, p, q, e)) =
    subst (λ z. scanned (On at.Doctype) z ≡ On at.Doctype) (sym e)
    (type_over (codes "PUBLIC") (public ++ system) (type_plain (codes "PUBLIC") refl) ∙ type_over public system (over_literal are_public public p) ∙ over_literal are_chars system q)

over_external : (x : List ℕ) → Maybe IsExternal x → scanned (On at.Doctype) x ≡ On at.Doctype
over_external x (inl e) = rw e refl
over_external x (inr i) =
    subst (λ z. scanned (On at.Doctype) z ≡ On at.Doctype) (sym i.whole) (type_over i.space i.named (type_plain i.space (white_plain i.space i.spaced)) ∙ over_named i.named i.is_named)

pub scans_doctype : (x : List ℕ) → IsDoctype x → scanned (On at.Idle) x ≡ Whole
scans_doctype x i =
    subst (λ z. scanned (On at.Idle) z ≡ Whole) (sym i.whole)
    (type_over i.start (i.name ++ (i.external ++ (i.space ++ 62 ∷ []))) (type_plain i.start (white_plain i.start i.started))
    ∙ type_over i.name (i.external ++ (i.space ++ 62 ∷ [])) (type_plain i.name (name_is_plain i.name i.named))
    ∙ type_over i.external (i.space ++ 62 ∷ []) (over_external i.external i.given) ∙ type_over i.space (62 ∷ []) (type_plain i.space (spaces_plain i.space i.spaced)))
