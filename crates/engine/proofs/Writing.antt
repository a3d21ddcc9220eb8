-- Changes that go into the stores themselves, some after others.
use Rattle.std.proofs.Common.{◌≡◌, ℕ, List, [], ◌∷◌, ◌++◌, refl, ap, ◌∙◌}
use Rattle.protocol.specs.declared.policy.Object.{Object}
use Rattle.protocol.specs.declared.policy.Object.TheVariants.{OfCell, OfPolicy}
use Rattle.stores.specs.declared.store.Store as store
use Rattle.stores.specs.Writes.{Written}
use Rattle.serial.specs.Words.{Change}
use Rattle.serial.specs.Writes.{before_cells, before_rights, to_cells, to_rights}
use Rattle.engine.specs.Stores.{Wrote}

module _ {S : Type 0} (s : store.Ghosts S) where
  pub written_one : (a b : S) (at v : ℕ) → s.written a at v b → Written s ((at, v) ∷ []) a b
  unfolding Written
  written_one a b at v w = (b, w, refl)

  pub written_both : (ws ws' : List (ℕ × ℕ)) (a b d : S) → Written s ws a b → Written s ws' b d → Written s (ws ++ ws') a d
  unfolding Written
  written_both [] ws' a b d e more = rw e at more
  written_both ((at, v) ∷ ws) ws' a b d (next, w, rest) more = (next, w, written_both ws ws' next b d rest more)

cells_first : (o : Object) (v : ℕ) (ws ws' : List (ℕ × ℕ)) → before_cells o v (ws ++ ws') ≡ before_cells o v ws ++ ws'
cells_first (OfCell c) v ws ws' = refl
cells_first (OfPolicy p) v ws ws' = refl

cells_both : (ks ls : List Change) → to_cells (ks ++ ls) ≡ to_cells ks ++ to_cells ls
unfolding to_cells
cells_both [] ls = refl
cells_both (k ∷ ks) ls = ap (before_cells k.object k.value) (cells_both ks ls) ∙ cells_first k.object k.value (to_cells ks) (to_cells ls)

rights_first : (o : Object) (v : ℕ) (ws ws' : List (ℕ × ℕ)) → before_rights o v (ws ++ ws') ≡ before_rights o v ws ++ ws'
rights_first (OfCell c) v ws ws' = refl
rights_first (OfPolicy p) v ws ws' = refl

rights_both : (ks ls : List Change) → to_rights (ks ++ ls) ≡ to_rights ks ++ to_rights ls
unfolding to_rights
rights_both [] ls = refl
rights_both (k ∷ ks) ls = ap (before_rights k.object k.value) (rights_both ks ls) ∙ rights_first k.object k.value (to_rights ks) (to_rights ls)

module _ {C R : Type 0} (c : store.Ghosts C) (r : store.Ghosts R) where
  pub wrote_none : (cells : C) (rights : R) → Wrote c r cells rights cells rights []
  unfolding Written to_cells to_rights
  wrote_none cells rights = record { into_cells = refl; into_rights = refl }

  pub wrote_cell : (cells cells' : C) (rights : R) (k : Change) (at : ℕ) → k.object ≡ OfCell at → c.written cells at k.value cells' → Wrote c r cells rights cells' rights (k ∷ [])
  unfolding Written to_cells to_rights
  wrote_cell cells cells' rights k at is w = rw is (record { into_cells = written_one c cells cells' at k.value w; into_rights = refl })

  pub wrote_right : (cells : C) (rights rights' : R) (k : Change) (at : ℕ) → k.object ≡ OfPolicy at → r.written rights at k.value rights' → Wrote c r cells rights cells rights' (k ∷ [])
  unfolding Written to_cells to_rights
  wrote_right cells rights rights' k at is w = rw is (record { into_cells = refl; into_rights = written_one r rights rights' at k.value w })

  pub wrote_both : (ks ls : List Change) (cells cells' cells'' : C) (rights rights' rights'' : R)
      → Wrote c r cells rights cells' rights' ks → Wrote c r cells' rights' cells'' rights'' ls → Wrote c r cells rights cells'' rights'' (ks ++ ls)
  wrote_both ks ls cells cells' cells'' rights rights' rights'' w v =
      record {
        into_cells = rw (cells_both ks ls) (written_both c (to_cells ks) (to_cells ls) cells cells' cells'' w.into_cells v.into_cells);
        into_rights = rw (rights_both ks ls) (written_both r (to_rights ks) (to_rights ls) rights rights' rights'' w.into_rights v.into_rights);
      }
