-- What the table's equations compute by, said once: to unfold one of these is to unfold all that its `unfolding` line names.
-- Assumes nothing.
use mathlib.Core.List.{List}
use Prim.Native.Nat.{ℕ}
use Rattle.format.specs.Forest.{count, breadth, preorder, beside, first_tree, other_trees, after_trees, map_forest}
use Rattle.format.specs.Node.{prim_number, kind_number, mode_number, modes_number, value_number, label_kind, label_value}
use Rattle.format.specs.Book.{bodies, actors, trees}
use Rattle.format.specs.Encode.{bytes16, bytes32, name_bytes, row_of, sized, row_bytes, entry_bytes, role_number, definition_entries, root_of, file_entries, names_bytes, nodes_bytes, definitions_bytes, files_bytes, toc_row, contents_bytes, encode}
use Rattle.refusals.specs.Lists.{flat}
use Rattle.format.specs.Fits.{every, is_byte, is_name, before, ascending, place_below, kind_fits, not_init, kind_allowed, label_fits, node_fits, forest_fits, is_init, definition_fits, files_rise, is_init_role, is_main, file_fits, imports_fit, roles_fit, fits}
use Rattle.format.specs.Layout.{Layout, le16, le32, row_at, entry_at, run, names_of, first, trees_after, build, mode_of, modes_of, kinds, kind_of, label_of, node_of, role_of, definitions_of, files_of, part, names_part, nodes_part, definitions_part, files_part, row_trees, siblings, entries, read, same, layout}
use Rattle.samples.specs.Notation.{ascii_bytes, spelled}
use Rattle.samples.specs.Bytes as bytes
use Rattle.samples.specs.Written as written
use Rattle.samples.specs.Table.{Sample, samples}

-- `layout`, by every definition of the book's format.
unfoldable pub layout-computed : List ℕ → Layout
unfolding
    count breadth preorder beside first_tree other_trees after_trees map_forest
    prim_number kind_number mode_number modes_number value_number label_kind label_value
    bodies actors trees
    bytes16 bytes32 flat name_bytes row_of sized row_bytes entry_bytes role_number definition_entries root_of file_entries names_bytes nodes_bytes
    definitions_bytes files_bytes toc_row contents_bytes encode
    every is_byte is_name before ascending place_below kind_fits not_init kind_allowed label_fits node_fits forest_fits is_init definition_fits
    files_rise is_init_role is_main file_fits imports_fit roles_fit fits
    le16 le32 row_at entry_at run names_of first trees_after build mode_of modes_of kinds kind_of label_of node_of role_of definitions_of files_of part
    names_part nodes_part definitions_part files_part row_trees siblings entries read same layout
layout-computed bs = layout bs

-- The table, by the bytes and the books in it.
unfoldable pub samples-computed : List Sample
unfolding
    samples ascii_bytes spelled
    bytes.p1 bytes.p3 bytes.p4 bytes.p5 bytes.p6 bytes.p7 bytes.p8-merges bytes.p8-differs bytes.p9-alone bytes.p9-import bytes.p10
    bytes.p11-empty bytes.p11-neither
    written.p1 written.p3 written.p4 written.p5 written.p6 written.p7 written.p8-merges written.p8-differs written.p9-alone
    written.p9-import written.p10 written.p11-empty written.p11-neither
samples-computed = samples
