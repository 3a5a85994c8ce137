-- The entry of a leaf that has a key. Assumes nothing.
use Rattle.std.proofs.Common.{◌≡◌, Bool, true, false, cond, List, [], ◌∷◌, map, Some, None, Option, Decides, sym, refl, ap, subst}
use Rattle.std.specs.List.{find}
use Rattle.std.specs.Option.{option_map}
use Rattle.std.specs.Str.{bytes_eq}
use Rattle.std.proofs.lemmas.Bool.{false≢true}
use Rattle.std.proofs.lemmas.Slice.Eq.{bytes_eq-Decides}
use denote.Ref.{Bor}
use Rattle.keys.specs.Kinds.{Field}
use Rattle.nodes.specs.declared.entry.Entry.{Entry}
use Rattle.nodes.specs.Layout.{LeafEntry}
use Rattle.nodes.specs.Meanings.{entry_of}
use Rattle.lookups.specs.Showing.{FoundEntry}

-- the first that has it
first_found : (key : Field) (entries : List Entry) → FoundEntry key (map entry_of entries) (option_map entry_of (find (λ (entry : Entry). bytes_eq entry.key key) entries))
first_found key [] = tt
first_found key (e ∷ es) = go (bytes_eq e.key key) (bytes_eq-Decides e.key key) (find (λ (entry : Entry). bytes_eq entry.key key) es) (first_found key es)
  where
    go : (same : Bool) → Decides same (e.key ≡ key) → (rest : Option Entry) → FoundEntry key (map entry_of es) (option_map entry_of rest) → FoundEntry key (entry_of e ∷ map entry_of es) (option_map entry_of (cond same (Some e) rest))
    go true tells rest later = ([], map entry_of es, refl, tt, tells.0 refl)
    go false tells None later = (λ is. false≢true (tells.1 is), later)
    go false tells (Some x) later = (entry_of e ∷ later.0, later.1, ap (λ (list : List LeafEntry). entry_of e ∷ list) later.2, (λ is. false≢true (tells.1 is), later.3), later.4)

pub found_is : (key : Field) (entries : List Entry) (r : Option (Bor Entry)) → option_map (λ (entry : Bor Entry). entry.now) r ≡ find (λ (entry : Entry). bytes_eq entry.key key) entries
    → FoundEntry key (map entry_of entries) (option_map (λ (entry : Bor Entry). entry_of entry.now) r)
found_is key entries None is = subst (λ (o : Option Entry). FoundEntry key (map entry_of entries) (option_map entry_of o)) (sym is) (first_found key entries)
found_is key entries (Some x) is = subst (λ (o : Option Entry). FoundEntry key (map entry_of entries) (option_map entry_of o)) (sym is) (first_found key entries)
