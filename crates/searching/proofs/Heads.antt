-- The header of a valid tree is read, and is plausible. Assumes nothing.
use Rattle.std.proofs.Common.{◌≡◌, ℕ, suc, ◌≤◌, true, ◌&&◌, eqb, leb, length, Ok, Err, Result, sym, refl, ap, ◌∙◌, arith}
use Rattle.std.proofs.lemmas.Bool.{and_from, and_parts, eq-eqb, le-leb, leb-true}
use Rattle.refusals.specs.declared.Refusal.{Refusal}
use Rattle.page_store.specs.Meanings.{Meaning, count_of}
use Rattle.nodes.specs.declared.header.Header.{Header}
use Rattle.nodes.specs.Layout.{HeaderPage, header_image, HeaderFits}
use Rattle.nodes.specs.Meanings.{header_of}
use Rattle.keys.specs.Kinds.{Kind}
use Rattle.book.specs.Entries.{Entries}
use Rattle.tree.specs.Valid.{Pages, Valid}
use Rattle.tree.proofs.Highest.{at_most_six}
use Rattle.tree.proofs.Fitting.{header_fits}
use Rattle.searching.specs.NodeReads.{NodeRead}
use Rattle.searching.specs.Descents.{header_on, plausible}
use Rattle.searching.proofs.ReadValues.{read_value, read_never_refused}

pub valid_is_plausible : (kind : Kind) (pages : Pages) (entries : Entries) (valid : Valid kind pages entries) → length pages ≤ 65536 → plausible kind (length pages) (header_on valid) ≡ true
valid_is_plausible kind pages entries valid few =
    let height = suc valid.levels in
    and_from (eqb kind.code kind.code) (eqb (length pages) (length pages) && (leb 1 height && leb height 6)) (eq-eqb kind.code kind.code refl)
    (and_from (eqb (length pages) (length pages)) (leb 1 height && leb height 6) (eq-eqb (length pages) (length pages) refl)
    (and_from (leb 1 height) (leb height 6) (le-leb 1 height (omega arith)) (le-leb height 6 (at_most_six kind pages entries valid few))))

-- a plausible header has 1 to 6 levels
pub height_fits : (kind : Kind) (count : ℕ) (header : HeaderPage) → plausible kind count header ≡ true → (1 ≤ header.height) × (header.height ≤ 6)
height_fits kind count header e =
    let a = and_parts (eqb header.kind_code kind.code) (eqb header.pages count && (leb 1 header.height && leb header.height 6)) e in
    let b = and_parts (eqb header.pages count) (leb 1 header.height && leb header.height 6) a.1 in
    let d = and_parts (leb 1 header.height) (leb header.height 6) b.1 in
    (leb-true 1 header.height d.0, leb-true header.height 6 d.1)

module _ (m : Meaning) (few : count_of m ≤ 65536) (kind : Kind) (entries : Entries) (valid : Valid kind m.pages entries) where
  pub header_is : (header : Header) (r : Result Header Refusal) → NodeRead header_image HeaderFits header_of m 0 r → r ≡ Ok header → header_of header ≡ header_on valid
  header_is header (Ok x) read e =
      let same : x ≡ header = cc in
      ap header_of (sym same) ∙ read_value header_image HeaderFits header_of m 0 (header_on valid) (header_fits kind m.pages entries valid few) valid.header_agrees x read
  header_is header (Err refusal) read e = absurd (let z : ◌≡◌ {A = ℕ} 0 1 = cc in omega arith)

  pub header_is_read : (refusal : Refusal) (r : Result Header Refusal) → NodeRead header_image HeaderFits header_of m 0 r → r ≡ Err refusal → ⊥
  header_is_read refusal (Ok x) read e = let z : ◌≡◌ {A = ℕ} 0 1 = cc in omega arith
  header_is_read refusal (Err other) read e = read_never_refused header_image HeaderFits header_of m 0 (header_on valid) (header_fits kind m.pages entries valid few) valid.header_agrees other read

  pub never_implausible : (header : Header) (count : ℕ) → header_of header ≡ header_on valid → count ≡ count_of m → plausible kind count (header_of header) ≡ true
  never_implausible header count is counted = ap (λ (h : HeaderPage). plausible kind count h) is ∙ (ap (λ (n : ℕ). plausible kind n (header_on valid)) counted ∙ valid_is_plausible kind m.pages entries valid few)
