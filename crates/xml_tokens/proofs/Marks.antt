-- Comments, CDATA sections and processing instructions are spelled exactly where their readers find them.
use Rattle.std.proofs.Common.{◌≡◌, ℕ, true, false, List, [], ◌∷◌, ◌++◌, refl, ap, sym, ◌∙◌, subst, append_assoc}
use Rattle.std.specs.Prelude.{Some, not, ◌&&◌}
use Rattle.std.specs.List.{list_all}
use Rattle.plain_tree.specs.XmlNames.{is_space, are_spaces, begins_space, is_white, is_name, is_name_char, is_name_start, is_xml, are_chars}
use Rattle.xml_tokens.specs.NameBytes.{is_name_byte}
use Rattle.xml_tokens.specs.Cutting.{front, back, before}
use Rattle.plain_tree.specs.Parts.{has_part}
use Rattle.xml_tokens.specs.Tokens.{Token, Comment, Section, Instruction, IsToken}
use Rattle.xml_tokens.specs.Markup.{IsComment, IsSection, IsInstruction, is_apart}
use Rattle.xml_tokens.specs.TokenAt.{comment_at, section_at, data_at, instruction_at, name_at}
use Rattle.xml_tokens.proofs.Lists.{Stops, and_true, not_true, front-append, back-append, front-back, back-stops, list_all-front, chosen_some, before-append, before_whole}
use Rattle.xml_tokens.proofs.Texts.{space_ends_name, name_bytes}
use Rattle.xml_tokens.proofs.Parts.{some_same, name_is, name_was, stops_spaces, no_name_byte}
use Rattle.xml_tokens.proofs.Attributing.{then_some}
use Rattle.xml_tokens.proofs.Tagging.{white_stops}

pub comment_is : (v x : List ℕ) → IsComment v x → comment_at (v ++ 45 ∷ 45 ∷ 62 ∷ []) ≡ Some (Comment v)
unfolding comment_at
comment_is v x i = rw (sym (append_assoc v (45 ∷ []) (45 ∷ 62 ∷ [])), before-append (v ++ 45 ∷ []) (45 ∷ 62 ∷ []), before-append v (45 ∷ []), i.text, i.no_dashes) refl

pub comment_was : (s : List ℕ) (t : Token) → comment_at s ≡ Some t → IsToken t (60 ∷ 33 ∷ 45 ∷ 45 ∷ s)
unfolding comment_at
comment_was s t e =
    let d = then_some (before (45 ∷ 62 ∷ []) s) _ t e in
    let v = then_some (before (45 ∷ []) d.0) _ t d.2 in
    let last = chosen_some (are_chars v.0 && not (has_part (45 ∷ 45 ∷ []) d.0)) (Some (Comment v.0)) t v.2 in
    let both = and_true (are_chars v.0) (not (has_part (45 ∷ 45 ∷ []) d.0)) last.0 in
    let dashed = before_whole (45 ∷ []) d.0 v.0 v.1 in
    let is : IsComment v.0 (60 ∷ 33 ∷ 45 ∷ 45 ∷ s) = record {
      text = both.0;
      no_dashes = ap (has_part (45 ∷ 45 ∷ [])) (sym dashed) ∙ not_true (has_part (45 ∷ 45 ∷ []) d.0) both.1;
      whole =
          ap (λ z. 60 ∷ 33 ∷ 45 ∷ 45 ∷ z) (before_whole (45 ∷ 62 ∷ []) s d.0 d.1 ∙ ap (λ z. z ++ 45 ∷ 62 ∷ []) dashed ∙ append_assoc v.0 (45 ∷ []) (45 ∷ 62 ∷ []));
    } in
    subst (λ z. IsToken z (60 ∷ 33 ∷ 45 ∷ 45 ∷ s)) (some_same (Comment v.0) t last.1) is

pub section_is : (v x : List ℕ) → IsSection v x → section_at (v ++ 93 ∷ 93 ∷ 62 ∷ []) ≡ Some (Section v)
unfolding section_at
section_is v x i = rw (before-append v (93 ∷ 93 ∷ 62 ∷ []), i.text, i.no_end) refl

pub section_was : (s : List ℕ) (t : Token) → section_at s ≡ Some t → IsToken t (60 ∷ 33 ∷ 91 ∷ 67 ∷ 68 ∷ 65 ∷ 84 ∷ 65 ∷ 91 ∷ s)
unfolding section_at
section_was s t e =
    let v = then_some (before (93 ∷ 93 ∷ 62 ∷ []) s) _ t e in
    let last = chosen_some (are_chars v.0 && not (has_part (93 ∷ 93 ∷ 62 ∷ []) v.0)) (Some (Section v.0)) t v.2 in
    let both = and_true (are_chars v.0) (not (has_part (93 ∷ 93 ∷ 62 ∷ []) v.0)) last.0 in
    let is : IsSection v.0 (60 ∷ 33 ∷ 91 ∷ 67 ∷ 68 ∷ 65 ∷ 84 ∷ 65 ∷ 91 ∷ s) = record {
      text = both.0;
      no_end = not_true (has_part (93 ∷ 93 ∷ 62 ∷ []) v.0) both.1;
      whole = ap (λ z. 60 ∷ 33 ∷ 91 ∷ 67 ∷ 68 ∷ 65 ∷ 84 ∷ 65 ∷ 91 ∷ z) (before_whole (93 ∷ 93 ∷ 62 ∷ []) s v.0 v.1);
    } in
    subst (λ z. IsToken z (60 ∷ 33 ∷ 91 ∷ 67 ∷ 68 ∷ 65 ∷ 84 ∷ 65 ∷ 91 ∷ s)) (some_same (Section v.0) t last.1) is

apart_stops : (space value : List ℕ) → is_apart space value ≡ true → Stops is_name_byte (space ++ value)
apart_stops space [] e = stops_spaces space [] e tt
apart_stops space (c ∷ cs) e = white_stops space (c ∷ cs) (and_true (is_white space) (not (is_space c)) e).0

data_is : (space value : List ℕ) → is_apart space value ≡ true → data_at (space ++ value) ≡ Some value
data_is [] [] e = refl
data_is (c ∷ cs) [] e =
    let both = and_true (is_space c) (are_spaces cs) e in
    rw (both.0, back-append is_space cs [] both.1 tt) refl
data_is [] (d ∷ ds) e = cc
data_is (c ∷ cs) (d ∷ ds) e =
    let both = and_true (is_white (c ∷ cs)) (not (is_space d)) e in
    let white = and_true (is_space c) (are_spaces (c ∷ cs)) both.0 in
    let spaces = and_true (is_space c) (are_spaces cs) white.1 in
    rw (white.0, back-append is_space cs (d ∷ ds) spaces.1 (not_true (is_space d) both.1)) refl

pub instruction_is : (target value x : List ℕ) (i : IsInstruction target value x) → instruction_at (target ++ (i.space ++ (value ++ 63 ∷ 62 ∷ []))) ≡ Some (Instruction target value)
unfolding instruction_at
instruction_is target value x i =
    let both = and_true (is_name target) (not (is_xml target)) i.named in
    let cut : target ++ (i.space ++ (value ++ 63 ∷ 62 ∷ [])) ≡ (target ++ (i.space ++ value)) ++ 63 ∷ 62 ∷ [] = sym (simp append_assoc) in
    rw (
      cut,
      before-append (target ++ (i.space ++ value)) (63 ∷ 62 ∷ []),
      name_is target (i.space ++ value) both.0 (apart_stops i.space value i.apart),
      data_is i.space value i.apart,
      both.1,
      i.text,
      i.no_end,
    ) refl

record Data (s value : List ℕ) : Type 0 where
  space : List ℕ
  apart : is_apart space value ≡ true
  whole : s ≡ space ++ value

data_was : (s value : List ℕ) → data_at s ≡ Some value → Data s value
data_was [] value e =
    let none = some_same [] value e in
    record { space = []; apart = subst (λ z. is_apart [] z ≡ true) none refl; whole = none }
data_was (c ∷ s) value e =
    let found = chosen_some (is_space c) (Some (back is_space s)) value e in
    let same = some_same (back is_space s) value found.1 in
    record {
      space = c ∷ front is_space s;
      apart = by value found.0 (subst (Stops is_space) same (back-stops is_space s));
      whole = ap (λ z. c ∷ z) (sym (front-back is_space s) ∙ ap (λ z. front is_space s ++ z) same);
    } where
      by : (v : List ℕ) → is_space c ≡ true → Stops is_space v → is_apart (c ∷ front is_space s) v ≡ true
      by [] w stops = rw (w, list_all-front is_space s) refl
      by (d ∷ v) w stops = rw (w, list_all-front is_space s, stops) refl

pub instruction_was : (s : List ℕ) (t : Token) → instruction_at s ≡ Some t → IsToken t (60 ∷ 63 ∷ s)
unfolding instruction_at
instruction_was s t e =
    let inner = then_some (before (63 ∷ 62 ∷ []) s) _ t e in
    let named = then_some (name_at inner.0) _ t inner.2 in
    let value = then_some (data_at named.0.1) _ t named.2 in
    let last = chosen_some (not (is_xml named.0.0) && (are_chars value.0 && not (has_part (63 ∷ 62 ∷ []) value.0))) (Some (Instruction named.0.0 value.0)) t value.2 in
    let xml = and_true (not (is_xml named.0.0)) (are_chars value.0 && not (has_part (63 ∷ 62 ∷ []) value.0)) last.0 in
    let both = and_true (are_chars value.0) (not (has_part (63 ∷ 62 ∷ []) value.0)) xml.1 in
    let n = name_was inner.0 named.0.0 named.0.1 named.1 in
    let d = data_was named.0.1 value.0 value.1 in
    let whole : s ≡ named.0.0 ++ (d.space ++ (value.0 ++ 63 ∷ 62 ∷ [])) =
    before_whole (63 ∷ 62 ∷ []) s inner.0 inner.1 ∙ ap (λ z. z ++ 63 ∷ 62 ∷ []) (n.1 ∙ ap (λ z. named.0.0 ++ z) d.whole) ∙ simp append_assoc in
    let is : IsInstruction named.0.0 value.0 (60 ∷ 63 ∷ s) = record {
      named = rw (n.0, xml.0) refl;
      space = d.space;
      apart = d.apart;
      text = both.0;
      no_end = not_true (has_part (63 ∷ 62 ∷ []) value.0) both.1;
      whole = ap (λ z. 60 ∷ 63 ∷ z) whole;
    } in
    subst (λ z. IsToken z (60 ∷ 63 ∷ s)) (some_same (Instruction named.0.0 value.0) t last.1) is

xml_bytes : list_all is_name_byte (120 ∷ 109 ∷ 108 ∷ []) ≡ true
unfolding is_name_char is_name_start
xml_bytes = refl

-- behind the target of an instruction that begins with xml no white space follows these signs
pub no_declaration : (target value x rest : List ℕ) (i : IsInstruction target value x) → target ++ (i.space ++ (value ++ 63 ∷ 62 ∷ [])) ≡ 120 ∷ 109 ∷ 108 ∷ rest → begins_space rest ≡ true → ⊥
no_declaration target value x rest i e b =
    let both = and_true (is_name target) (not (is_xml target)) i.named in
    let cut : target ++ (i.space ++ (value ++ 63 ∷ 62 ∷ [])) ≡ target ++ ((i.space ++ value) ++ 63 ∷ 62 ∷ []) = sym (simp append_assoc) in
    let ours : front is_name_byte (target ++ ((i.space ++ value) ++ 63 ∷ 62 ∷ [])) ≡ target =
    front-append is_name_byte target ((i.space ++ value) ++ 63 ∷ 62 ∷ []) (name_bytes target both.0) (later (i.space ++ value) (apart_stops i.space value i.apart)) in
    let xmls : front is_name_byte (120 ∷ 109 ∷ 108 ∷ rest) ≡ 120 ∷ 109 ∷ 108 ∷ [] = front-append is_name_byte (120 ∷ 109 ∷ 108 ∷ []) rest xml_bytes (stops rest b) in
    let same : target ≡ 120 ∷ 109 ∷ 108 ∷ [] = sym ours ∙ ap (front is_name_byte) (sym cut ∙ e) ∙ xmls in
    no (subst (λ z. not (is_xml z) ≡ true) same both.1) where
      no : not (is_xml (120 ∷ 109 ∷ 108 ∷ [])) ≡ true → ⊥
      no e = cc

      question : is_name_byte 63 ≡ false
      question = no_name_byte.7

      later : (y : List ℕ) → Stops is_name_byte y → Stops is_name_byte (y ++ 63 ∷ 62 ∷ [])
      later [] s = no_name_byte.7
      later (c ∷ y) s = s

      stops : (y : List ℕ) → begins_space y ≡ true → Stops is_name_byte y
      stops [] b = tt
      stops (c ∷ y) b = space_ends_name c b
