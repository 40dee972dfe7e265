-- A token is spelled exactly where the function on lists reads it.
use Rattle.std.proofs.Common.{◌≡◌, ◌⊎◌, inl, inr, ℕ, ◌<◌, ◌≤◌, Bool, true, false, cond, List, [], ◌∷◌, ◌++◌, length, refl, arith, ap, sym, ◌∙◌, subst, append_assoc, append-nil}
use Rattle.std.specs.Prelude.{codes, Option, Some, None, option_map, not, ◌==◌, ◌&&◌, if◌then◌else◌}
use Rattle.std.specs.List.{list_all}
use Rattle.std.specs.Str.{is_utf8, chars}
use lib.Utf8.{encodes, encode, scalar}
use Rattle.std.proofs.lemmas.Bool.Decides.{nat_tests}
use Rattle.std.proofs.lemmas.Str.{encodes-chars, IsUtf8-encode, is_utf8-from_IsUtf8, IsUtf8-from_is_utf8, chars-encodes, length-encode, len_utf8_bounds, encode_ascii}
use Rattle.plain_tree.specs.XmlNames.{is_char, begins_space}
use Rattle.xml_tokens.specs.NameBytes.{is_name_byte}
use Rattle.xml_tokens.specs.Cutting.{behind, before}
use Rattle.xml_tokens.specs.Tokens.{Token, Character, Reference, Section, Start, Empty, End, Comment, Instruction, Declaration, Doctype, IsToken}
use Rattle.xml_tokens.specs.Markup.{IsCharacter, IsStart, IsInstruction}
use Rattle.xml_tokens.specs.References.{IsReference, referred}
use Rattle.xml_tokens.specs.Declarations.{IsItem, is_version}
use Rattle.xml_tokens.specs.TokenAt.{token_at, markup_at, bang_at, question_at, reference_at, character_at, char_at, one_char, start_at, comment_at, section_at, instruction_at, declaration_end, doctype_end, otherwise, close_at}
use Rattle.xml_tokens.proofs.Lists.{and_true, chosen, chosen_some, map_some, same_number, before-append, before_whole, behind_whole}
use Rattle.xml_tokens.proofs.Texts.{encode_bytes, named_first}
use Rattle.xml_tokens.proofs.Numbers.{char_small}
use Rattle.xml_tokens.proofs.Parts.{some_same, name_is_not, no_name_byte, white_begins}
use Rattle.xml_tokens.proofs.Attributing.{then_some}
use Rattle.xml_tokens.proofs.Tagging.{Closes, start_is, start_was, end_is, end_was}
use Rattle.xml_tokens.proofs.Marks.{comment_is, comment_was, section_is, section_was, instruction_is, instruction_was, no_declaration}
use Rattle.xml_tokens.proofs.Declaring.{declaration_is, declaration_was}
use Rattle.xml_tokens.proofs.Typing.{doctype_is, doctype_was}

-- a byte that begins neither a tag nor a reference
abbrev pub is_text : ℕ → Bool
is_text c = not (c == 60) && not (c == 38)

text_high : (c : ℕ) → 128 ≤ c → is_text c ≡ true
text_high c h = grind (arith, nat_tests)

pub char_scalar : (c : ℕ) → is_char c ≡ true → scalar c ≡ true
char_scalar c e = by c (char_small c e) where
  by : (c : ℕ) → (c < 0xD800) ⊎ ((0xE000 ≤ c) × (c < 0x110000)) → scalar c ≡ true
  by c (inl h) = grind (arith, nat_tests)
  by c (inr h) = grind (arith, nat_tests)

pub encoded_char : (c : ℕ) → is_char c ≡ true → char_at (encode c) ≡ Some c
unfolding char_at
encoded_char c e =
    let s = char_scalar c e in
    let u = is_utf8-from_IsUtf8 (encode c) (IsUtf8-encode c s) in
    let one : chars (encode c) ≡ c ∷ [] = ap chars (sym (append-nil (encode c))) ∙ chars-encodes (c ∷ []) (rw s refl) in
    rw (u, one, e) refl

not_text : (c : ℕ) → is_text c ≡ true → ((c == 60) ≡ false) × ((c == 38) ≡ false)
not_text c e = (grind (arith, nat_tests), grind (arith, nat_tests))

-- text, by its first byte
token_text : (x : List ℕ) → 0 < length x → list_all is_text x ≡ true → token_at x ≡ character_at x
unfolding token_at
token_text [] n e = absurd (omega arith)
token_text (c ∷ cs) n e =
    let b = not_text c (and_true (is_text c) (list_all is_text cs) e).0 in
    rw (b.0, b.1) refl

character_is : (c : ℕ) (x : List ℕ) → IsCharacter c x → token_at x ≡ Some (Character c)
character_is c x i =
    let some : 0 < length (encode c) = omega (arith, length-encode c, (len_utf8_bounds c).0) in
    let low : is_text c ≡ true = rw (i.no_less, i.no_and) refl in
    ap token_at i.whole ∙ token_text (encode c) some (encode_bytes is_text text_high c (λ h. low)) ∙ ap (option_map (λ d. Character d)) (encoded_char c i.lawful)

reference_is_read : (c : ℕ) (x : List ℕ) → IsReference c x → token_at x ≡ Some (Reference c)
unfolding token_at reference_at
reference_is_read c x i = rw (i.whole, before-append i.inner (59 ∷ []), i.names) refl

-- behind < a name begins a start tag
markup_name : (name rest : List ℕ) (c : ℕ) (cs : List ℕ) → name ≡ c ∷ cs → is_name_byte c ≡ true → token_at (60 ∷ (name ++ rest)) ≡ start_at (name ++ rest)
unfolding token_at markup_at
markup_name name rest c cs e h = rw (e, name_is_not c 47 h no_name_byte.3, name_is_not c 63 h no_name_byte.7, name_is_not c 33 h no_name_byte.0) refl

greater_closes : Closes (62 ∷ [])
greater_closes = record { name_stops = no_name_byte.6; stops = refl; ended = refl; some = (62, [], refl) }

slash_closes : Closes (47 ∷ 62 ∷ [])
slash_closes = record { name_stops = no_name_byte.3; stops = refl; ended = refl; some = (47, 62 ∷ [], refl) }

tag_is : (name : List ℕ) (attributes : List (List ℕ × List ℕ)) (close x : List ℕ) → IsStart name attributes close x → Closes close → token_at x ≡ close_at name attributes close
tag_is name attributes close x i closes =
    let n = named_first name i.named in
    ap token_at i.whole ∙ markup_name name (i.inner ++ (i.space ++ close)) n.0 n.1 n.2 n.3 ∙ start_is name attributes close x i closes

question_instruction : (target value x : List ℕ) (i : IsInstruction target value x) (o : Option (List ℕ))
    → behind (120 ∷ 109 ∷ 108 ∷ []) (target ++ (i.space ++ (value ++ 63 ∷ 62 ∷ []))) ≡ o
    → otherwise o (λ rest. if begins_space rest then (if declaration_end rest then Some Declaration else None) else instruction_at (target ++ (i.space ++ (value ++ 63 ∷ 62 ∷ []))))
    (instruction_at (target ++ (i.space ++ (value ++ 63 ∷ 62 ∷ []))))
    ≡ Some (Instruction target value)
question_instruction target value x i None e = instruction_is target value x i
question_instruction target value x i (Some rest) e = by (begins_space rest) refl where
  by : (b : Bool) → begins_space rest ≡ b
      → cond (begins_space rest) (cond (declaration_end rest) (Some Declaration) None) (instruction_at (target ++ (i.space ++ (value ++ 63 ∷ 62 ∷ [])))) ≡ Some (Instruction target value)
  by true h = absurd (no_declaration target value x rest i (behind_whole (120 ∷ 109 ∷ 108 ∷ []) _ rest e) h)
  by false h = rw h (instruction_is target value x i)

question_declaration : (s : List ℕ) → begins_space s ≡ true → declaration_end s ≡ true → question_at (120 ∷ 109 ∷ 108 ∷ s) ≡ Some Declaration
unfolding question_at
question_declaration s b e = rw (b, e) refl

versioned_begins : (x rest : List ℕ) → IsItem (codes "version") is_version x → begins_space (x ++ rest) ≡ true
versioned_begins x rest i = ap (λ z. begins_space (z ++ rest)) i.whole ∙ ap begins_space (append_assoc i.space ((codes "version") ++ (i.eq ++ i.quotes)) rest) ∙ white_begins i.space _ i.spaced

-- what spells a token is read as it
pub token_is : (t : Token) (x : List ℕ) → IsToken t x → token_at x ≡ Some t
unfolding token_at markup_at bang_at question_at
token_is (Character c) x i = character_is c x i
token_is (Reference c) x i = reference_is_read c x i
token_is (Section v) x i = ap token_at i.whole ∙ section_is v x i
token_is (Start n attributes) x i = tag_is n attributes (62 ∷ []) x i greater_closes ∙ rw i.distinct refl
token_is (Empty n attributes) x i = tag_is n attributes (47 ∷ 62 ∷ []) x i slash_closes ∙ rw i.distinct refl
token_is (End n) x i = ap token_at i.whole ∙ end_is n x i
token_is (Comment v) x i = ap token_at i.whole ∙ comment_is v x i
token_is (Instruction n v) x i = ap token_at i.whole ∙ question_instruction n v x i _ refl
token_is Declaration x i = ap token_at i.whole ∙ question_declaration (i.version ++ (i.encoding ++ (i.standalone ++ (i.space ++ 63 ∷ 62 ∷ [])))) (versioned_begins i.version _ i.versioned) (declaration_is x i)
token_is Doctype x i = ap token_at i.whole ∙ ap (λ b. cond b (Some Doctype) None) (doctype_is x i)

not_60 : (d c : ℕ) (s : List ℕ) → (c == 60) ≡ false → c ∷ s ≡ encode d → (d == 60) ≡ false
not_60 d c s e w = by (d == 60) refl where
  by : (b : Bool) → (d == 60) ≡ b → (d == 60) ≡ false
  by true is =
      let same : c ∷ s ≡ 60 ∷ [] = w ∙ ap encode (same_number d 60 is) ∙ encode_ascii 60 (omega arith) in
      let first : c ≡ 60 = cc in
      absurd (let t = ap (λ z. z == 60) first in cc)
  by false is = is

not_38 : (d c : ℕ) (s : List ℕ) → (c == 38) ≡ false → c ∷ s ≡ encode d → (d == 38) ≡ false
not_38 d c s e w = by (d == 38) refl where
  by : (b : Bool) → (d == 38) ≡ b → (d == 38) ≡ false
  by true is =
      let same : c ∷ s ≡ 38 ∷ [] = w ∙ ap encode (same_number d 38 is) ∙ encode_ascii 38 (omega arith) in
      let first : c ≡ 38 = cc in
      absurd (let t = ap (λ z. z == 38) first in cc)
  by false is = is

one_was : (cs : List ℕ) (d : ℕ) → one_char cs ≡ Some d → (cs ≡ d ∷ []) × (is_char d ≡ true)
one_was [] d e = cc
one_was (c ∷ []) d e =
    let found = chosen_some (is_char c) (Some c) d e in
    let same = some_same c d found.1 in
    (ap (λ z. z ∷ []) same, subst (λ z. is_char z ≡ true) same found.0)
one_was (c ∷ k ∷ cs) d e = cc

pub char_was : (x : List ℕ) (d : ℕ) → char_at x ≡ Some d → (x ≡ encode d) × (is_char d ≡ true)
unfolding char_at
char_was x d e =
    let found = chosen_some (is_utf8 x) (one_char (chars x)) d e in
    let one = one_was (chars x) d found.1 in
    (sym (encodes-chars x (IsUtf8-from_is_utf8 x found.0)) ∙ ap encodes one.0 ∙ append-nil (encode d), one.1)

character_was : (c : ℕ) (s : List ℕ) (t : Token) → (c == 60) ≡ false → (c == 38) ≡ false → character_at (c ∷ s) ≡ Some t → IsToken t (c ∷ s)
character_was c s t a b e =
    let m = map_some (λ d. Character d) (char_at (c ∷ s)) t e in
    let was = char_was (c ∷ s) m.0 m.1 in
    let is : IsCharacter m.0 (c ∷ s) = record { lawful = was.1; no_less = not_60 m.0 c s a was.0; no_and = not_38 m.0 c s b was.0; whole = was.0 } in
    subst (λ z. IsToken z (c ∷ s)) m.2 is

reference_was : (s : List ℕ) (t : Token) → reference_at s ≡ Some t → IsToken t (38 ∷ s)
unfolding reference_at
reference_was s t e =
    let inner = then_some (before (59 ∷ []) s) _ t e in
    let c = then_some (referred inner.0) _ t inner.2 in
    let is : IsReference c.0 (38 ∷ s) = record { inner = inner.0; names = c.1; whole = ap (λ z. 38 ∷ z) (before_whole (59 ∷ []) s inner.0 inner.1) } in
    subst (λ z. IsToken z (38 ∷ s)) (some_same (Reference c.0) t c.2) is

module _ (s : List ℕ) (t : Token) where
  question_by : (o : Option (List ℕ)) → behind (120 ∷ 109 ∷ 108 ∷ []) s ≡ o
      → otherwise o (λ rest. if begins_space rest then (if declaration_end rest then Some Declaration else None) else instruction_at s) (instruction_at s) ≡ Some t → IsToken t (60 ∷ 63 ∷ s)
  question_by None e f = instruction_was s t f
  question_by (Some rest) e f = elim (chosen (begins_space rest) _ _ (Some t) f) [
    | inl w ↦
        let found = chosen_some (declaration_end rest) (Some Declaration) t w.1 in
        let whole = behind_whole (120 ∷ 109 ∷ 108 ∷ []) s rest e in
        subst (λ z. IsToken z (60 ∷ 63 ∷ s)) (some_same Declaration t found.1) (subst (λ z. IsToken Declaration (60 ∷ 63 ∷ z)) (sym whole) (declaration_was rest found.0))
    | inr w ↦ instruction_was s t w.1
  ]

  question_was : question_at s ≡ Some t → IsToken t (60 ∷ 63 ∷ s)
  unfolding question_at
  question_was e = question_by (behind (120 ∷ 109 ∷ 108 ∷ []) s) refl e

  bang_doctype : (o : Option (List ℕ)) → behind (68 ∷ 79 ∷ 67 ∷ 84 ∷ 89 ∷ 80 ∷ 69 ∷ []) s ≡ o
      → otherwise o (λ rest. if doctype_end rest then Some Doctype else None) None ≡ Some t → IsToken t (60 ∷ 33 ∷ s)
  bang_doctype None e f = cc
  bang_doctype (Some rest) e f =
      let found = chosen_some (doctype_end rest) (Some Doctype) t f in
      let whole = behind_whole (68 ∷ 79 ∷ 67 ∷ 84 ∷ 89 ∷ 80 ∷ 69 ∷ []) s rest e in
      subst (λ z. IsToken z (60 ∷ 33 ∷ s)) (some_same Doctype t found.1) (subst (λ z. IsToken Doctype (60 ∷ 33 ∷ z)) (sym whole) (doctype_was rest found.0))

  bang_section : (o : Option (List ℕ)) → behind (91 ∷ 67 ∷ 68 ∷ 65 ∷ 84 ∷ 65 ∷ 91 ∷ []) s ≡ o
      → otherwise o section_at (otherwise (behind (68 ∷ 79 ∷ 67 ∷ 84 ∷ 89 ∷ 80 ∷ 69 ∷ []) s) (λ rest. if doctype_end rest then Some Doctype else None) None) ≡ Some t → IsToken t (60 ∷ 33 ∷ s)
  bang_section None e f = bang_doctype (behind (68 ∷ 79 ∷ 67 ∷ 84 ∷ 89 ∷ 80 ∷ 69 ∷ []) s) refl f
  bang_section (Some rest) e f = subst (λ z. IsToken t (60 ∷ 33 ∷ z)) (sym (behind_whole (91 ∷ 67 ∷ 68 ∷ 65 ∷ 84 ∷ 65 ∷ 91 ∷ []) s rest e)) (section_was rest t f)

  bang_comment : (o : Option (List ℕ)) → behind (45 ∷ 45 ∷ []) s ≡ o
      → otherwise o comment_at
      (otherwise (behind (91 ∷ 67 ∷ 68 ∷ 65 ∷ 84 ∷ 65 ∷ 91 ∷ []) s) section_at
      (otherwise (behind (68 ∷ 79 ∷ 67 ∷ 84 ∷ 89 ∷ 80 ∷ 69 ∷ []) s) (λ rest. if doctype_end rest then Some Doctype else None) None)) ≡ Some t → IsToken t (60 ∷ 33 ∷ s)
  bang_comment None e f = bang_section (behind (91 ∷ 67 ∷ 68 ∷ 65 ∷ 84 ∷ 65 ∷ 91 ∷ []) s) refl f
  bang_comment (Some rest) e f = subst (λ z. IsToken t (60 ∷ 33 ∷ z)) (sym (behind_whole (45 ∷ 45 ∷ []) s rest e)) (comment_was rest t f)

  bang_was : bang_at s ≡ Some t → IsToken t (60 ∷ 33 ∷ s)
  unfolding bang_at
  bang_was e = bang_comment (behind (45 ∷ 45 ∷ []) s) refl e

  -- the sign behind <
  sign : (c k : ℕ) → (c == k) ≡ true → IsToken t (60 ∷ k ∷ s) → IsToken t (60 ∷ c ∷ s)
  sign c k e i = subst (λ z. IsToken t (60 ∷ z ∷ s)) (sym (same_number c k e)) i

markup_was : (s : List ℕ) (t : Token) → markup_at s ≡ Some t → IsToken t (60 ∷ s)
unfolding markup_at
markup_was [] t e = cc
markup_was (c ∷ s) t e = elim (chosen (c == 47) _ _ (Some t) e) [
  | inl w ↦ sign s t c 47 w.0 (end_was s t w.1)
  | inr w ↦ elim (chosen (c == 63) _ _ (Some t) w.1) [
    | inl v ↦ sign s t c 63 v.0 (question_was s t v.1)
    | inr v ↦ elim (chosen (c == 33) _ _ (Some t) v.1) [
      | inl u ↦ sign s t c 33 u.0 (bang_was s t u.1)
      | inr u ↦ start_was (c ∷ s) t u.1
    ]
  ]
]

-- and what is read as a token spells it
pub token_was : (t : Token) (x : List ℕ) → token_at x ≡ Some t → IsToken t x
unfolding token_at
token_was t [] e = cc
token_was t (c ∷ s) e = elim (chosen (c == 60) _ _ (Some t) e) [
  | inl w ↦ subst (λ z. IsToken t (z ∷ s)) (sym (same_number c 60 w.0)) (markup_was s t w.1)
  | inr w ↦ elim (chosen (c == 38) _ _ (Some t) w.1) [
    | inl v ↦ subst (λ z. IsToken t (z ∷ s)) (sym (same_number c 38 v.0)) (reference_was s t v.1)
    | inr v ↦ character_was c s t w.0 v.0 v.1
  ]
]

pub one_token : (s t : Token) (x : List ℕ) → IsToken s x → IsToken t x → s ≡ t
one_token s t x a b = some_same s t (sym (token_is s x a) ∙ token_is t x b)
