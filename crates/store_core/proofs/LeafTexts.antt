-- What is written of a node that is no element.
use Rattle.std.proofs.Common.{◌≡◌, ℕ, true, false, ◌+◌, ◌*◌, ◌<◌, ◌≤◌, ◌^◌, Bool, List, [], ◌∷◌, ◌++◌, drop, length, Some, None, slice_get, refl, length-append, sym, arith}
use Rattle.std.specs.Prelude.{◌==◌, ◌&&◌, codes, if◌then◌else◌}
use Rattle.std.specs.List.{flat_map}
use Rattle.plain_tree.specs.declared.kind.Kind.{Kind}
use Rattle.plain_tree.specs.declared.kind.Kind.TheVariants.{Document, Element, Attribute, Text, Comment, Instruction}
use Rattle.plain_tree.specs.Numbers.{has_value}
use Rattle.grammar_file.proofs.ListLemmas.{drop-at, drop-none}
use Rattle.xml_nodes.specs.Pen.{Pen, Leaf, call_text, before_leaf, is_attribute_kind, line_end}
use Rattle.xml_nodes.specs.Saved.{text_byte, value_byte, leaf_text, after_space}
use Rattle.store_core.specs.Saving.{Named, begin_call, texts_past}

-- both choices are short
either-short : (b : Bool) (x y : List ℕ) (n : ℕ) → length x ≤ n → length y ≤ n → length (if b then x else y) ≤ n
either-short true x y n h k = h
either-short false x y n h k = k

text_byte-short : (c : ℕ) → length (text_byte c) ≤ 6
text_byte-short c =
    either-short (c == 38) _ _ 6 (omega arith)
    (either-short (c == 60) _ _ 6 (omega arith) (either-short (c == 62) _ _ 6 (omega arith) (either-short (c == 13) _ _ 6 (omega arith) (omega arith))))

value_byte-short : (c : ℕ) → length (value_byte c) ≤ 6
value_byte-short c =
    either-short (c == 38) _ _ 6 (omega arith)
    (either-short (c == 60) _ _ 6 (omega arith)
    (either-short (c == 34) _ _ 6 (omega arith)
    (either-short (c == 9) _ _ 6 (omega arith) (either-short (c == 10) _ _ 6 (omega arith) (either-short (c == 13) _ _ 6 (omega arith) (omega arith))))))

escaped-short : (f : ℕ → List ℕ) → ((c : ℕ) → length (f c) ≤ 6) → (bytes : List ℕ) → length (flat_map f bytes) ≤ 6 * length bytes
escaped-short f short [] = omega arith
escaped-short f short (c ∷ cs) = omega (arith, short c, escaped-short f short cs, length-append (f c) (flat_map f cs))

after_space-short : (value : List ℕ) → length (after_space value) ≤ length value + 1
after_space-short [] = omega arith
after_space-short (c ∷ cs) = omega arith

leaf_text-short : (k : Kind) (name value : List ℕ) → length (leaf_text k name value) ≤ length name + 6 * length value + 10
leaf_text-short Document name value = omega arith
leaf_text-short Element name value = omega arith
leaf_text-short Attribute name value =
    omega (
      arith,
      length-append name (61 ∷ 34 ∷ (flat_map value_byte value ++ 34 ∷ [])),
      length-append (flat_map value_byte value) (34 ∷ []),
      escaped-short value_byte value_byte-short value,
    )
leaf_text-short Text name value = omega (arith, escaped-short text_byte text_byte-short value)
leaf_text-short Comment name value = omega (arith, length-append value (codes "-->"))
leaf_text-short Instruction name value =
    omega (arith, length-append name (after_space value ++ codes "?>"), length-append (after_space value) (codes "?>"), after_space-short value)

before-short : (in_tag attribute : Bool) → length (before_leaf in_tag attribute) ≤ 1
before-short true true = omega arith
before-short true false = omega arith
before-short false attribute = omega arith

end-short : (b : Bool) → length {A = ℕ} (if b then 10 ∷ [] else []) ≤ 1
end-short true = omega arith
end-short false = omega arith

-- a leaf is not too long
pub leaf-short : (pen : Pen) (k : Kind) (name value : List ℕ) → length name < 2 ^ 63 → length value < 2 ^ 63 → length (call_text pen (Leaf k name value)) ≤ 2 ^ 66
leaf-short pen k name value n v =
    let front = before_leaf pen.in_tag (is_attribute_kind k) in
    let text = leaf_text k name value in
    omega (
      arith,
      length-append (front ++ text) (line_end pen.lines pen.depth),
      length-append front text,
      before-short pen.in_tag (is_attribute_kind k),
      leaf_text-short k name value,
      end-short (pen.lines && (pen.depth == 0)),
    )

-- the text that was found is the next
pub leaf_begins : (named : Named) (k : Kind) (name value : List ℕ) (texts : List (List ℕ)) (used : ℕ) → Some (k, name) ≡ named → true ≡ has_value k → Some value ≡ slice_get texts used
    → (begin_call named (drop used texts) ≡ Some (Leaf k name value)) × (texts_past named (drop used texts) ≡ drop (used + 1) texts)
leaf_begins named k name value texts used is valued found =
    rw (← is, drop-at texts used value (sym found)) (first k valued) where
      first : (k : Kind) → true ≡ has_value k → (begin_call (Some (k, name)) (value ∷ drop (used + 1) texts) ≡ Some (Leaf k name value)) × (texts_past (Some (k, name)) (value ∷ drop (used + 1) texts) ≡ drop (used + 1) texts)
      first Document e = cc
      first Element e = cc
      first Attribute e = (refl, refl)
      first Text e = (refl, refl)
      first Comment e = (refl, refl)
      first Instruction e = (refl, refl)

-- where no text is left, there is no call
pub leaf_lacks : (named : Named) (k : Kind) (name : List ℕ) (texts : List (List ℕ)) (used : ℕ) → Some (k, name) ≡ named → true ≡ has_value k → None ≡ slice_get texts used
    → (begin_call named (drop used texts) ≡ None) × (texts_past named (drop used texts) ≡ drop used texts)
leaf_lacks named k name texts used is valued none =
    rw (← is, drop-none texts used (sym none)) (first k valued) where
      first : (k : Kind) → true ≡ has_value k → (begin_call (Some (k, name)) [] ≡ None) × (texts_past (Some (k, name)) [] ≡ [])
      first Document e = cc
      first Element e = cc
      first Attribute e = (refl, refl)
      first Text e = (refl, refl)
      first Comment e = (refl, refl)
      first Instruction e = (refl, refl)
