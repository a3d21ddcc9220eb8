-- What the count of a store says of its bytes, and which list it is made with.
use Rattle.std.proofs.Common.{◌≡◌, ℕ, true, false, cond, List, sym, ap, ◌∙◌, ⊎_elim}
use Rattle.std.proofs.lemmas.List.{nil_from_length}
use Rattle.std.proofs.lemmas.Bool.{cases_Bool, cond-false, cond-true}
use Rattle.log_store.specs.Log.{holds_log, log_list, log_of}
use Rattle.log_store.proofs.LogLaws.{length_log}

-- the list of a new store
pub list_made : (n : ℕ) (t : List ℕ) → log_list (cond (holds_log n t) n 0) t ≡ log_of n t
list_made n t =
    ⊎_elim
    (λ (e : holds_log n t ≡ true). ap (λ m. log_list m t) (cond-true _ _ _ e) ∙ sym (cond-true _ _ _ e))
    (λ (e : holds_log n t ≡ false). ap (λ m. log_list m t) (cond-false _ _ _ e) ∙ nil_from_length (log_list 0 t) (length_log 0 t) ∙ sym (cond-false _ _ _ e))
    (cases_Bool (holds_log n t))
