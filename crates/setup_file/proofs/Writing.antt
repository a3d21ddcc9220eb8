-- The text that writing a set-up makes is read as that set-up.
use Rattle.std.proofs.Common.{◌≡◌, ℕ, ◌+◌, ◌≤◌, List, [], ◌∷◌, ◌++◌, map, Some, Result, Ok, Err, codes, decimal, sym, refl, ap, ◌∙◌, append_assoc, append-nil, arith, lit<, lit≤}
use Rattle.std.specs.List.{AllByRecursion, join_with_byte}
use Rattle.protocol.specs.declared.policy.Object.{Object}
use Rattle.protocol.specs.declared.policy.Object.TheVariants.{OfCell, OfPolicy}
use Rattle.protocol.specs.declared.policy.Policy.{Policy}
use Rattle.setup_file.specs.declared.error.SetupFileError.{SetupFileError}
use Rattle.setup_file.specs.declared.error.SetupFileError.TheVariants.{OutOfMemory, Unreadable}
use Rattle.setup_file.specs.declared.setup.Make.{Make}
use Rattle.setup_file.specs.declared.setup.Make.TheVariants.{Slice, Table, Log}
use Rattle.setup_file.specs.declared.setup.OrderLine.{OrderLine}
use Rattle.setup_file.specs.declared.setup.OrderLine.TheVariants.{Vector, Ladder}
use Rattle.setup_file.specs.declared.setup.SetupFile.{SetupFile}
use Rattle.setup_file.specs.Items.{numbers_of, store_of}
use Rattle.setup_file.specs.SetupFiles.{SetupContent, DraftContent, with_cells, with_rights, with_words, finished, at_line, lines_from, no_items, content_of, setup_content, ReadsSetupFile}
use Rattle.setup_file.specs.Texts.{order_words, make_words, store_words, object_words, policy_words, item_words, text_of, FitsOrder, FitsMake, FitsObject, FitsPolicy, Fits, Gives}
use Rattle.setup_file.specs.Words.{long_of, short_of}
use Rattle.setup_file.proofs.Spelling.{IsWord, words_back, lines_back, decimal_word, number_back}

long_back : (n : ℕ) → n ≤ 4294967295 → long_of (decimal n) ≡ Some n
long_back n h = number_back 4294967295 n h (lit≤ tt)

short_back : (n : ℕ) → n ≤ 65535 → short_of (decimal n) ≡ Some n
short_back n h = number_back 65535 n h (lit≤ tt)

short_word : (n : ℕ) → n ≤ 65535 → IsWord (decimal n)
short_word n h = decimal_word n (omega arith)

-- ---- each item's words are words, and say the item

numbers_back : (ns : List ℕ) → AllByRecursion (λ n. n ≤ 4294967295) ns → numbers_of (map decimal ns) ≡ Some ns
unfolding numbers_of
numbers_back [] h = refl
numbers_back (n ∷ ns) (h, hs) = rw (long_back n h, numbers_back ns hs) refl

store_back : (make : Make) (ns : List ℕ) → FitsMake make → AllByRecursion (λ n. n ≤ 4294967295) ns → store_of (make_words make ++ map decimal ns) ≡ Some (record { make = make; numbers = ns })
store_back Slice ns h hs = rw (numbers_back ns hs) refl
store_back Table ns h hs = rw (numbers_back ns hs) refl
store_back (Log places) ns h hs = rw (short_back places h, numbers_back ns hs) refl

order_back : (order : OrderLine) → FitsOrder order → with_words (codes "order" ∷ order_words order) no_items ≡ Ok (record no_items { order = Some order })
order_back Vector h = refl
order_back (Ladder read write restrict) (a, b, c) = rw (long_back read a, long_back write b, long_back restrict c) refl

policy_back : (subject : ℕ) (object : Object) (draft : DraftContent) → subject ≤ 65535 → FitsObject object → with_words (codes "policy" ∷ policy_words (record { subject = subject; object = object })) draft ≡ Ok (record draft { policies = draft.policies ++ record { subject = subject; object = object } ∷ [] })
policy_back subject (OfCell cell) draft h g = rw (short_back subject h, short_back cell g) refl
policy_back subject (OfPolicy policy) draft h g = rw (short_back subject h, short_back policy g) refl

decimals : (ns : List ℕ) → AllByRecursion (λ n. n ≤ 4294967295) ns → AllByRecursion IsWord (map decimal ns)
decimals [] h = tt
decimals (n ∷ ns) (h, hs) = (decimal_word n h, decimals ns hs)

order_is : (order : OrderLine) → FitsOrder order → AllByRecursion IsWord (order_words order)
order_is Vector h = (record { some = lit< tt; plain = refl }, tt)
order_is (Ladder read write restrict) (a, b, c) =
    (record { some = lit< tt; plain = refl }, (decimal_word read a, (decimal_word write b, (decimal_word restrict c, tt))))

store_is : (make : Make) (ns : List ℕ) → FitsMake make → AllByRecursion (λ n. n ≤ 4294967295) ns → AllByRecursion IsWord (make_words make ++ map decimal ns)
store_is Slice ns h hs = (record { some = lit< tt; plain = refl }, decimals ns hs)
store_is Table ns h hs = (record { some = lit< tt; plain = refl }, decimals ns hs)
store_is (Log places) ns h hs = (record { some = lit< tt; plain = refl }, (short_word places h, decimals ns hs))

policy_is : (subject : ℕ) (object : Object) → subject ≤ 65535 → FitsObject object → AllByRecursion IsWord (policy_words (record { subject = subject; object = object }))
policy_is subject (OfCell cell) h g = (short_word subject h, (record { some = lit< tt; plain = refl }, (short_word cell g, tt)))
policy_is subject (OfPolicy policy) h g = (short_word subject h, (record { some = lit< tt; plain = refl }, (short_word policy g, tt)))

-- a policy's line
abbrev policy_line : Policy → List (List ℕ)
policy_line policy = codes "policy" ∷ policy_words policy

policies_are : (policies : List Policy) → AllByRecursion FitsPolicy policies → AllByRecursion (AllByRecursion IsWord) (map policy_line policies)
policies_are [] h = tt
policies_are (p ∷ ps) (h, hs) = ((record { some = lit< tt; plain = refl }, policy_is p.subject p.object h.0 h.1), policies_are ps hs)

-- ---- line by line

step : (count : ℕ) (draft after : DraftContent) (w : List ℕ) (words : List (List ℕ)) (more : List (List ℕ)) → AllByRecursion IsWord (w ∷ words) → with_words (w ∷ words) draft ≡ Ok after → lines_from count draft (join_with_byte 32 (w ∷ words) ∷ more) ≡ lines_from (count + 1) after more
unfolding lines_from
step count draft after w words more h said =
    ap (λ ws. at_line (count + 1) (with_words ws draft) (λ d. lines_from (count + 1) d more)) (words_back w words h)
    ∙ ap (λ o. at_line (count + 1) o (λ d. lines_from (count + 1) d more)) said

policies_back : (count : ℕ) (draft : DraftContent) (policies : List Policy) → AllByRecursion FitsPolicy policies → (setup : SetupContent) → finished (record draft { policies = draft.policies ++ policies }) ≡ Ok setup → lines_from count draft (map (join_with_byte 32) (map policy_line policies) ++ [] ∷ []) ≡ Ok setup
unfolding lines_from
policies_back count draft [] h setup e = ap (λ o. at_line (count + 1) o Ok) (ap (λ ps. finished (record draft { policies = ps })) (sym (append-nil draft.policies)) ∙ e)
policies_back count draft (p ∷ ps) (h, hs) setup e =
    let after = record draft { policies = draft.policies ++ p ∷ [] } in
    step count draft after (codes "policy") (decimal p.subject ∷ object_words p.object) (map (join_with_byte 32) (map policy_line ps) ++ [] ∷ []) (record { some = lit< tt; plain = refl }, policy_is p.subject p.object h.0 h.1) (policy_back p.subject p.object draft h.0 h.1)
    ∙ policies_back (count + 1) after ps hs setup (ap (λ qs. finished (record draft { policies = qs })) (append_assoc draft.policies (p ∷ []) ps) ∙ e)

pub text_back : (setup : SetupContent) → Fits setup → content_of (text_of setup) ≡ Ok setup
text_back setup (ho, hc, hr, hp) =
    let ordered = record no_items { order = Some setup.order } in
    let celled = record ordered { cells = Some setup.cells } in
    let righted = record celled { rights = Some setup.rights } in
    let line = join_with_byte 32 in
    let policies = map line (map policy_line setup.policies) ++ [] ∷ [] in
    let cells = codes "cells" ∷ store_words setup.cells in
    let rights = codes "rights" ∷ store_words setup.rights in
    let order_are : AllByRecursion IsWord (codes "order" ∷ order_words setup.order) = (record { some = lit< tt; plain = refl }, order_is setup.order ho) in
    let cells_are : AllByRecursion IsWord cells = (record { some = lit< tt; plain = refl }, store_is setup.cells.make setup.cells.numbers hc.0 hc.1) in
    let rights_are : AllByRecursion IsWord rights = (record { some = lit< tt; plain = refl }, store_is setup.rights.make setup.rights.numbers hr.0 hr.1) in
    ap (lines_from 0 no_items) (lines_back (item_words setup) (order_are, (cells_are, (rights_are, policies_are setup.policies hp))))
    ∙ step 0 no_items ordered (codes "order") (order_words setup.order) (line cells ∷ line rights ∷ policies) order_are (order_back setup.order ho)
    ∙ step 1 ordered celled (codes "cells") (store_words setup.cells) (line rights ∷ policies) cells_are (ap (λ s. with_cells s ordered) (store_back setup.cells.make setup.cells.numbers hc.0 hc.1))
    ∙ step 2 celled righted (codes "rights") (store_words setup.rights) policies rights_are (ap (λ s. with_rights s celled) (store_back setup.rights.make setup.rights.numbers hr.0 hr.1))
    ∙ policies_back 3 righted setup.policies hp setup refl

pub read_back : (text : List ℕ) (result : Result SetupFile SetupFileError) → ReadsSetupFile text result → (setup : SetupContent) → Fits setup → text_of setup ≡ text → Gives setup result
read_back text (Ok file) h setup fits e = let said : Ok (setup_content file) ≡ Ok setup = sym h ∙ ap content_of (sym e) ∙ text_back setup fits in cc
read_back text (Err OutOfMemory) h setup fits e = tt
read_back text (Err (Unreadable line problem)) h setup fits e = let said = sym h ∙ ap content_of (sym e) ∙ text_back setup fits in cc
