-- From what set-up has checked to what the day's theorem asks.
use Rattle.std.proofs.Common.{◌≡◌, ℕ, Bool, true, List, length, sym, refl}
use Rattle.std.proofs.lemmas.Bool.{and_parts, leb-true, ltb-true, eqb-true}
use Rattle.protocol.specs.declared.policy.Object.{Object}
use Rattle.protocol.specs.declared.policy.Object.TheVariants.{OfCell, OfPolicy}
use Rattle.protocol.specs.declared.policy.Policy.{Policy}
use Rattle.rights.specs.declared.order.Operation.{Operation}
use Rattle.serial.specs.Words.{setup_of}
use Rattle.serial.specs.History.{Present, Admitted}
use Rattle.std.specs.List.{list_all}
use Rattle.setup.specs.Admission.{small, present, paired, first_state}
use Rattle.setup.proofs.Every.{every_at, every_nth}

module _ (right : ℕ → Bool) (cs rs : List ℕ) (ps : List Policy) where
  is_there : (joined : ℕ → ℕ → ℕ) (allows : ℕ → Operation → Bool) (o : Object) → present (length cs) (length ps) o ≡ true → Present (setup_of right joined allows ps) (record { cells = cs; rights = rs }) o
  is_there joined allows (OfCell c) e = ltb-true c (length cs) e
  is_there joined allows (OfPolicy p) e = ltb-true p (length ps) e

  pub admits : (joined : ℕ → ℕ → ℕ) (allows : ℕ → Operation → Bool) → small (length cs) (length ps) ≡ true → paired (length cs) (length rs) ps ≡ true → list_all right rs ≡ true → Admitted (setup_of right joined allows ps) (first_state cs rs)
  admits joined allows e f h = record {
    all_free = refl;
    none_opened = refl;
    none_committed = refl;
    as_many_rights = sym (eqb-true (length ps) (length rs) (and_parts _ _ f).0);
    all_rights = λ i l. every_at right rs i 0 h l;
    few_cells = leb-true (length cs) 256 (and_parts _ _ e).0;
    few_policies = leb-true (length ps) 64 (and_parts _ _ e).1;
    objects_present = λ i pol n. is_there joined allows pol.object (every_nth (λ p. present (length cs) (length ps) p.object) ps i pol (and_parts _ _ f).1 n);
  }
