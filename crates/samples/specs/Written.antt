-- The books of document 01's examples, written by hand; above each its Candid text. Definitions; assumes nothing.
-- Names are written as their numbers, which are their places among the book's names, by bytes. A book of one file leaves it without a
-- name: it has the empty one, number 0. The definition `type file name ..` is in the file of that number, from 0.
use Rattle.std.specs.Prelude.{[], ◌∷◌, ℕ}
use Rattle.labels.specs.declared.Label.TheVariants.{Id, Named, Unnamed}
use Rattle.format.specs.Forest.{end}
use Rattle.format.specs.Node.{Oneway, Query}
use Rattle.format.specs.Book.{Book, Main, ServiceImport, InitArgs}
use Rattle.samples.specs.Notation.{spelled, unlabelled_tree, ◌∶◌, ◌⨾◌, nat, text, ref, opt, record-of, variant-of, service-of, func, args-of, type, file}

-- type tree = variant { leaf : nat; fork : pair }; type pair = record { tree; tree }; type spare = text;
-- service : { put : (tree) -> () }
unfoldable pub p1 : Book
p1 =
    let fork : ℕ = 1 in
    let leaf : ℕ = 2 in
    let pair : ℕ = 3 in
    let put : ℕ = 4 in
    let spare : ℕ = 5 in
    let tree : ℕ = 6 in
    record {
      names = spelled ("" ∷ "fork" ∷ "leaf" ∷ "pair" ∷ "put" ∷ "spare" ∷ "tree" ∷ []);
      definitions =
          type 0 tree (variant-of (Named leaf ∶ nat ⨾ Named fork ∶ ref pair))
          ∷ type 0 pair (record-of (Unnamed 0 ∶ ref tree ⨾ Unnamed 1 ∶ ref tree))
          ∷ type 0 spare text
          ∷ [];
      files = file 0 Main (unlabelled_tree (service-of (Named put ∶ func (unlabelled_tree (ref tree)) end []))) ∷ [];
    }

-- type a = b; type b = b
unfoldable pub p3 : Book
p3 =
    let a : ℕ = 1 in
    let b : ℕ = 2 in
    record {
      names = spelled ("" ∷ "a" ∷ "b" ∷ []);
      definitions = type 0 a (ref b) ∷ type 0 b (ref b) ∷ [];
      files = file 0 Main end ∷ [];
    }

-- type a = opt a
unfoldable pub p4 : Book
p4 =
    let a : ℕ = 1 in
    record {
      names = spelled ("" ∷ "a" ∷ []);
      definitions = type 0 a (opt (ref a)) ∷ [];
      files = file 0 Main end ∷ [];
    }

-- type f = func (service { m : f }) -> ()
unfoldable pub p5 : Book
p5 =
    let f : ℕ = 1 in
    let m : ℕ = 2 in
    record {
      names = spelled ("" ∷ "f" ∷ "m" ∷ []);
      definitions = type 0 f (func (unlabelled_tree (service-of (Named m ∶ ref f))) end []) ∷ [];
      files = file 0 Main end ∷ [];
    }

-- type a = opt z; type b = nat; type b = nat
unfoldable pub p6 : Book
p6 =
    let a : ℕ = 1 in
    let b : ℕ = 2 in
    let z : ℕ = 3 in
    record {
      names = spelled ("" ∷ "a" ∷ "b" ∷ "z" ∷ []);
      definitions = type 0 a (opt (ref z)) ∷ type 0 b nat ∷ type 0 b nat ∷ [];
      files = file 0 Main end ∷ [];
    }

-- Two modes and an unbound argument: type f = func (z) -> () query oneway
unfoldable pub p7 : Book
p7 =
    let f : ℕ = 1 in
    let z : ℕ = 2 in
    record {
      names = spelled ("" ∷ "f" ∷ "z" ∷ []);
      definitions = type 0 f (func (unlabelled_tree (ref z)) end (Query ∷ Oneway ∷ [])) ∷ [];
      files = file 0 Main end ∷ [];
    }

-- main: type a = record { 97 : nat }
-- init: type a = record { a : nat }, no arguments
unfoldable pub p8-merges : Book
p8-merges =
    let a : ℕ = 0 in
    let init : ℕ = 1 in
    let main : ℕ = 2 in
    record {
      names = spelled ("a" ∷ "init" ∷ "main" ∷ []);
      definitions = type 0 a (record-of (Id 97 ∶ nat)) ∷ type 1 a (record-of (Named a ∶ nat)) ∷ [];
      files = file main Main end ∷ file init InitArgs (unlabelled_tree (args-of end)) ∷ [];
    }

-- main: type a = record { b : nat }
-- init: type a = record { a : nat }, no arguments
unfoldable pub p8-differs : Book
p8-differs =
    let a : ℕ = 0 in
    let b : ℕ = 1 in
    let init : ℕ = 2 in
    let main : ℕ = 3 in
    record {
      names = spelled ("a" ∷ "b" ∷ "init" ∷ "main" ∷ []);
      definitions = type 0 a (record-of (Named b ∶ nat)) ∷ type 1 a (record-of (Named a ∶ nat)) ∷ [];
      files = file main Main end ∷ file init InitArgs (unlabelled_tree (args-of end)) ∷ [];
    }

-- service : { a : () -> (); "\00a" : () -> () }
unfoldable pub p9-alone : Book
p9-alone =
    let zero-a : ℕ = 1 in
    let a : ℕ = 2 in
    record {
      names = spelled ("" ∷ "\0a" ∷ "a" ∷ []);
      definitions = [];
      files = file 0 Main (unlabelled_tree (service-of (Named a ∶ func end end [] ⨾ Named zero-a ∶ func end end []))) ∷ [];
    }

-- main: service : { a : () -> (); "\00a" : () -> () }
-- import, a service: service : {}
unfoldable pub p9-import : Book
p9-import =
    let zero-a : ℕ = 0 in
    let a : ℕ = 1 in
    let import : ℕ = 2 in
    let main : ℕ = 3 in
    record {
      names = spelled ("\0a" ∷ "a" ∷ "import" ∷ "main" ∷ []);
      definitions = [];
      files =
          file main Main (unlabelled_tree (service-of (Named a ∶ func end end [] ⨾ Named zero-a ∶ func end end [])))
          ∷ file import ServiceImport (unlabelled_tree (service-of end))
          ∷ [];
    }

-- service : { m : () -> () }
unfoldable pub p10 : Book
p10 =
    let m : ℕ = 1 in
    record {
      names = spelled ("" ∷ "m" ∷ []);
      definitions = [];
      files = file 0 Main (unlabelled_tree (service-of (Named m ∶ func end end []))) ∷ [];
    }

-- type r = record { r }; type s = record { t }; type t = r
unfoldable pub p11-empty : Book
p11-empty =
    let r : ℕ = 1 in
    let s : ℕ = 2 in
    let t : ℕ = 3 in
    record {
      names = spelled ("" ∷ "r" ∷ "s" ∷ "t" ∷ []);
      definitions = type 0 r (record-of (Unnamed 0 ∶ ref r)) ∷ type 0 s (record-of (Unnamed 0 ∶ ref t)) ∷ type 0 t (ref r) ∷ [];
      files = file 0 Main end ∷ [];
    }

-- type o = record { p }; type p = opt o
unfoldable pub p11-neither : Book
p11-neither =
    let o : ℕ = 1 in
    let p : ℕ = 2 in
    record {
      names = spelled ("" ∷ "o" ∷ "p" ∷ []);
      definitions = type 0 o (record-of (Unnamed 0 ∶ ref p)) ∷ type 0 p (opt (ref o)) ∷ [];
      files = file 0 Main end ∷ [];
    }
